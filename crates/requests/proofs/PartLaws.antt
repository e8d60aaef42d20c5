-- A setting, and settings in turn, on part of the tables: what they come to there they come to on all. Assumes nothing.
use Rattle.lists.proofs.Kit.{ℕ, suc, ◌+◌, ◌≤◌, ◌<◌, ◌≡◌, refl, sym, ap, ◌∙◌, subst, subst⁻¹, List, Bool, true, false, cond, true≢false, Option, none, some, option_some_ne_none, inl, inr, ◌⊎◌, arith, length}
use Rattle.writing.specs.declared.Coding.{Coding}
use Rattle.writing.specs.declared.Kind.{Kind}
use Rattle.writing.specs.declared.Kind.TheVariants.{GroupContacts, IndividualContacts, Lines, Key, QuickTexts, Home, Channels, System, StatusTexts, Group, Individual, LineSlot, Last}
use Rattle.writing.specs.Settings.{Setting, kind, group_contacts, individual_contacts, lines, key, quick_texts, home, channels, system, status_texts, group, individual, line_slot, last}
use Rattle.tables.specs.declared.limits.Limits.{Limits}
use Rattle.tables.specs.declared.limits.Texts.{Texts}
use Rattle.tables.specs.declared.limits.Texts.TheVariants.{Shared}
use Rattle.tables.specs.Apply.{apply, change, own_after, with_room}
use Rattle.tables.specs.Owns.{Own, own, only, put_own}
use Rattle.tables.specs.Tables.{Tables, fresh}
use Rattle.tables.specs.Texts.{text_sum, text_size, TextRoom, Passes}
use Rattle.tables.proofs.Owns.{own_mix, alike, own_other, own_put, same_kind}
use Rattle.tables.proofs.RoomSentences.{came}
use Rattle.shared_texts.proofs.RoomLaws.{no_room_exactly, apply_exactly}
use Rattle.shared_texts.proofs.Sums.{sum_put, size_part}
use Rattle.working.specs.Parts.{copied?, part_of, rejoined}
use Rattle.requests.specs.Judge.{Outcome, done, step, missing, unknown, field, room, taken, over, fault, kept, refused}
use Rattle.requests.specs.Parts.{OnlyOf, with_area}
use Rattle.requests.specs.Requests.{Runs, Fault, Judged}

-- ---- the part itself

-- a table that it has is that of the whole
pub part_own : (k j : Kind) (t : Tables) → copied? k j ≡ true → own j (part_of k t) ≡ own j t
part_own k j t h = own_mix (copied? k) fresh t j ∙ ap (λ (b : Bool). cond b (own j t) (own j fresh)) h

-- it is made of the tables before all texts by putting one
part_put : (k : Kind) (t : Tables) → part_of k t ≡ put_own k (part_of Last t) (own k t)
part_put GroupContacts t = refl
part_put IndividualContacts t = refl
part_put Lines t = refl
part_put Key t = refl
part_put QuickTexts t = refl
part_put Home t = refl
part_put Channels t = refl
part_put System t = refl
part_put StatusTexts t = refl
part_put Group t = refl
part_put Individual t = refl
part_put LineSlot t = refl
part_put Last t = refl

-- PART-SUM: its texts are those of its kind
pub part_sum : (k : Kind) (t : Tables) → text_sum (part_of k t) ≡ text_size k (own k t)
part_sum k t =
    let z : text_sum (part_of Last t) ≡ 0 = refl in
    let l = size_part k (part_of Last t) in
    ap text_sum (part_put k t) ∙ omega (arith, z, l, sum_put k (part_of Last t) (own k t))

-- ---- a setting

-- what a setting makes of its table does not ask for the area
own_after_area : (lim : Limits) (b : ℕ) (s : Setting) (x : Own (kind s)) → own_after (with_area lim b) s x ≡ own_after lim s x
own_after_area lim b (group_contacts o f es) x = refl
own_after_area lim b (individual_contacts o f es) x = refl
own_after_area lim b (lines o f es) x = refl
own_after_area lim b (key target f) x = refl
own_after_area lim b (quick_texts o es) x = refl
own_after_area lim b (home h) x = refl
own_after_area lim b (channels o ns) x = refl
own_after_area lim b (system s) x = refl
own_after_area lim b (status_texts o es) x = refl
own_after_area lim b (group o f s) x = refl
own_after_area lim b (individual o f s) x = refl
own_after_area lim b (line_slot o f s) x = refl
own_after_area lim b (last f h) x = refl

-- no room where nothing was made
none_made : {A B : Type 0} (f : A → B) (o : Option A) → with_room f o ≡ none → o ≡ none
none_made f none e = refl
none_made f (some a) e = absurd (option_some_ne_none (f a) e)

module _ (lim : Limits) (k : Kind) (a b rest : ℕ) (shared : lim.texts ≡ Shared a) (split : a ≡ b + rest) where
  -- v is the part of t, and the texts of the other tables take the rest
  pub record Beside (t v : Tables) : Type 0 where
    pub part : v ≡ part_of k t
    pub sum : text_sum t ≡ text_sum v + rest

  -- the tables that the part has not stay
  abbrev pub Stay : Tables → Tables → Type 0
  Stay t u = (j : Kind) → copied? k j ≡ false → own j u ≡ own j t

  -- what stays is joined again
  pub stay_joined : (t u : Tables) → Stay t u → u ≡ rejoined k t u
  stay_joined t u h = alike u (rejoined k t u) (λ j. go j (copied? k j) refl ∙ sym (own_mix (copied? k) t u j))
    where
      go : (j : Kind) (c : Bool) → copied? k j ≡ c → own j u ≡ cond (copied? k j) (own j u) (own j t)
      go j true e = sym (ap (λ (d : Bool). cond d (own j u) (own j t)) e)
      go j false e = h j e ∙ sym (ap (λ (d : Bool). cond d (own j u) (own j t)) e)

  -- one table put in both
  module _ (t v : Tables) (x : Beside t v) (q : Kind) (h : copied? k q ≡ true) (y : Own q) where
    put_part : put_own q v y ≡ part_of k (put_own q t y)
    put_part = alike (put_own q v y) (part_of k (put_own q t y)) (λ j. go j (only q j) refl ∙ sym (own_mix (copied? k) fresh (put_own q t y) j))
      where
        go : (j : Kind) (c : Bool) → only q j ≡ c → own j (put_own q v y) ≡ cond (copied? k j) (own j (put_own q t y)) (own j fresh)
        go j true e =
            subst (λ (i : Kind). own i (put_own q v y) ≡ cond (copied? k i) (own i (put_own q t y)) (own i fresh)) (same_kind q j e)
            (own_put q v y ∙ sym (own_put q t y) ∙ sym (ap (λ (d : Bool). cond d (own q (put_own q t y)) (own q fresh)) h))
        go j false e =
            own_other q j v y e ∙ ap (own j) x.part ∙ own_mix (copied? k) fresh t j
            ∙ ap (λ (z : Own j). cond (copied? k j) z (own j fresh)) (sym (own_other q j t y e))

    put_stays : Stay t (put_own q t y)
    put_stays j e = go (only q j) refl
      where
        go : (c : Bool) → only q j ≡ c → own j (put_own q t y) ≡ own j t
        go true g = absurd (true≢false (sym h ∙ ap (copied? k) (same_kind q j g) ∙ e))
        go false g = own_other q j t y g

    pub own_same : own q v ≡ own q t
    own_same = ap (own q) x.part ∙ part_own k q t h

    put_sum : text_sum (put_own q t y) ≡ text_sum (put_own q v y) + rest
    put_sum =
        let e : text_size q (own q v) ≡ text_size q (own q t) = ap (text_size q) own_same in
        let d : text_sum t ≡ text_sum v + rest = x.sum in
        omega (arith, e, d, sum_put q t y, sum_put q v y, size_part q v)

    pub put_beside : Beside (put_own q t y) (put_own q v y) × Stay t (put_own q t y)
    put_beside = (record { part = put_part; sum = put_sum }, put_stays)

  module _ (s : Setting) (t v : Tables) (x : Beside t v) (h : copied? k (kind s) ≡ true) where
    -- both make the same of their own table
    after_same : own_after (with_area lim b) s (own (kind s) v) ≡ own_after lim s (own (kind s) t)
    after_same = own_after_area lim b s (own (kind s) v) ∙ ap (own_after lim s) (own_same t v x (kind s) h (own (kind s) t))

    -- CHANGED: a change of the part is one of the whole
    changed : (w : Tables) → change (with_area lim b) s v ≡ some w → (u : Tables) × (change lim s t ≡ some u) × Beside u w × Stay t u
    changed w e =
        let (y, p, q) = came (put_own (kind s) v) (own_after (with_area lim b) s (own (kind s) v)) w e in
        let (d, g) = put_beside t v x (kind s) h y in
        (put_own (kind s) t y, ap (with_room (put_own (kind s) t)) (sym after_same ∙ p), subst (Beside (put_own (kind s) t y)) q d, g)

    -- APPLIED: and so is a setting that has room
    pub applied : (w : Tables) → apply (with_area lim b) s v ≡ some w → (u : Tables) × (apply lim s t ≡ some u) × Beside u w × Stay t u
    applied w e =
        let (f, r) = (apply_exactly (with_area lim b) s v w).0 e in
        let (u, g, d, z) = changed w f in
        let l : text_sum u ≤ a = omega (arith, r, d.sum, split) in
        (u, (apply_exactly lim s t u).1 (g, subst⁻¹ (λ (y : Texts). TextRoom y (text_sum u)) shared l), d, z)

    -- FULL: one that has none there has none
    pub full : apply (with_area lim b) s v ≡ none → apply lim s t ≡ none
    full e = go ((no_room_exactly (with_area lim b) s v).0 e)
      where
        go : (change (with_area lim b) s v ≡ none) ⊎ ((w : Tables) × (change (with_area lim b) s v ≡ some w) × Passes (Shared b) (text_sum w)) → apply lim s t ≡ none
        go (inl f) =
            (no_room_exactly lim s t).1 (inl (ap (with_room (put_own (kind s) t)) (sym after_same ∙ none_made (put_own (kind s) v) (own_after (with_area lim b) s (own (kind s) v)) f)))
        go (inr (w, f, r)) =
            let (u, g, d, z) = changed w f in
            let l : a < text_sum u = omega (arith, r, d.sum, split) in
            (no_room_exactly lim s t).1 (inr (u, g, subst⁻¹ (λ (y : Texts). Passes y (text_sum u)) shared l))

  -- ---- settings in turn

  module _ (c : Coding) where
    -- RUNS: settings that run on the part run on the whole
    pub runs : {n : ℕ} {t v w : Tables} {bs r : List ℕ} {l : List Setting} (m : ℕ) → Beside t v → OnlyOf c k n bs → length l + m ≡ n → Runs c (with_area lim b) n v bs l w r
        → (u : Tables) × Runs c lim n t bs l u r × Beside u w × Stay t u × OnlyOf c k m r
    runs {n} {t} {bs = bs} m x o e done =
        let g : n ≡ m = omega (arith, e) in
        (t, done, x, (λ j h. refl), subst (λ (i : ℕ). OnlyOf c k i bs) g o)
    runs {t = t} {v} m x o e (step {n} {t' = w} {w = bytes} {r = r} {s = s} p z i f g) =
        let (h, o') = o s bytes r p z i in
        let (u, q, d, y) = applied s t v x h w f in
        let (u', q', d', y', o'') = runs m d o' (omega (arith, e)) g in
        (u', step {w = bytes} {s = s} p z i q q', d', (λ j h. y' j h ∙ y j h), o'')

    -- FAULTS: what is at fault there is at fault
    pub faults : {left number : ℕ} {t v : Tables} {bs : List ℕ} → Beside t v → OnlyOf c k (suc left) bs → Fault c (with_area lim b) left v bs number → Fault c lim left t bs number
    faults x o missing = missing
    faults x o (unknown h) = unknown h
    faults x o (field h g) = field h g
    faults {t = t} {v} x o (room {w = w} {s} r p z i f) = room {w = w} {s = s} r p z i (full s t v x (o s w r p z i).0 f)

    -- what the whole comes to where the part comes to an outcome
    abbrev pub Lifted : Tables → Outcome Setting Tables → Outcome Setting Tables → Type 0
    Lifted t (kept l w) (kept l' u) = (l ≡ l') × Beside u w × Stay t u
    Lifted t (kept l w) (refused number failed) = ⊥
    Lifted t (refused number failed) (kept l u) = ⊥
    Lifted t (refused number failed) (refused number' failed') = (number ≡ number') × (failed ≡ failed')

    -- JUDGED: a request comes to the same on the whole
    pub judged_too : {n : ℕ} {t v : Tables} {bs : List ℕ} {p : Outcome Setting Tables} → Beside t v → OnlyOf c k n bs → Judged c (with_area lim b) n v bs p
        → (q : Outcome Setting Tables) × Judged c lim n t bs q × Lifted t p q
    judged_too x o (taken {l} e g) =
        let (u, q, d, y, _) = runs 0 x o (omega (arith, e)) g in
        (kept l u, taken e q, (refl, d, y))
    judged_too x o (over e g) =
        let (u, q, d, y, _) = runs 0 x o (omega (arith, e)) g in
        (refused 4 0, over e q, (refl, refl))
    judged_too x o (fault {l} left {number} e g f) =
        let (u, q, d, y, o') = runs (suc left) x o e g in
        (refused number (length l + 1), fault left e q (faults d o' f), (refl, refl))
