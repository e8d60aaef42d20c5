-- Lists that are kept by a key: what a step of the code does to entries, and what a turn of a loop over a setting's entries does. Assumes nothing.
use Rattle.lists.proofs.Kit.{◌≡◌, refl, sym, subst, subst⁻¹, Bool, true, false, true≢false, List, [], map, Option, some, option_some_injective, option_some_ne_none, ℕ, ◌+◌, ◌-◌, ◌*◌, ◌≤◌, ◌<◌, arith, length, take, drop, replicate, length-take, length-drop}
use Rattle.lists.specs.Every.{All}
use Rattle.slots.specs.Slots.{same?, hit, unless}
use Rattle.counted_lists.specs.Counted.{Counted, EntriesOf, Tried, KeyDropped}
use Rattle.counted_lists.proofs.EntryLaws.{Keyed, entries_put, entries_drop}
use Rattle.counted_lists.proofs.ListLaws.{tried_room, tried_full}
use Rattle.writing.specs.declared.Operation.{Operation}
use Rattle.writing.specs.declared.Operation.TheVariants.{Add, Delete, Replace}
use Rattle.writing.specs.Fields.{Field, widths}
use Rattle.writing.proofs.Ends.{Ends}
use Rattle.settings.specs.declared.settings.Entries.{Entries}
use Rattle.read_fields.specs.Places.{FieldsAt}
use Rattle.tables.specs.Apply.{in_turn, start_from, keyed_step}
use Rattle.tables.proofs.EntryWalk.{Starting, Applying, applying_start, applying_next, applying_full, applying_stuck, applying_end}
use Rattle.tables.proofs.ReplaceLaws.{table_started}
use Rattle.store_lists.specs.Lists.{KeyedStepped}

-- ---- one step

-- the slots with the key of a slot were taken out
pub step_dropped : (w o k : ℕ) (x s t : List ℕ) → KeyDropped w o (take k (drop o x)) s t → KeyedStepped (Counted w) Delete w o k x s t true
step_dropped w o k x s t h =
    record {
      kept = λ f. absurd (true≢false f);
      tried = λ long inside n xs c.
          let l : length (take k (drop o x)) ≡ k = simp (length-take, length-drop) (omega arith) in
          tried_room (Counted w n) (unless (hit o (take k (drop o x))) xs) refl (h (omega arith) n xs c);
    }

-- what had room has had it
had_room : {T : Type 0} (Is : T → List ℕ → Type 0) (u : T) (t : List ℕ) (r : Bool) → Tried Is (some u) t r → (r ≡ true) × Is u t
had_room {T} Is u t true h = let (v, e, i) = h.room refl in (refl, subst (λ (z : T). Is z t) (sym (option_some_injective u v e)) i)
had_room Is u t false h = absurd (option_some_ne_none u (h.full refl))

-- entries that have their key, k bytes, at o: same tells whether two have one key
module _ {A : Type 0} (Is : ℕ → List (List ℕ) → List ℕ → Type 0) (P : A → Type 0) (w : ℕ) (f : A → List ℕ) (o k : ℕ) (key : A → List ℕ) (keyed : Keyed w f o k key) (same : A → A → Bool)
    (decides : (a b : A) → P a → P b → same? (key b) (key a) ≡ same a b) (n : ℕ) (ls : List A) (s : List ℕ) (c : EntriesOf (Is n) P f ls s) (a : A) (ok : P a) (t : List ℕ) (r : Bool) where
  abbrev slot_step : Operation → Option (List (List ℕ))
  slot_step op = keyed_step (λ y. hit o (take k (drop o y))) n op (f a) (map f ls)

  put : Tried (Is n) (slot_step Add) t r → Tried (EntriesOf (Is n) P f) (keyed_step same n Add a ls) t r
  put h = entries_put (Is n) P f w o k key keyed (same a) ls c.each n a t r ok (λ b q. decides a b ok q) h

  drop_out : Tried (Is n) (slot_step Delete) t r → Tried (EntriesOf (Is n) P f) (keyed_step same n Delete a ls) t r
  drop_out h =
      let (e, i) = had_room (Is n) (unless (hit o (take k (drop o (f a)))) (map f ls)) t r h in
      let gone : Is n (unless (hit o (key a)) (map f ls)) t = subst (λ (v : List ℕ). Is n (unless (hit o v) (map f ls)) t) (keyed.stands a) i in
      subst⁻¹ (Tried (EntriesOf (Is n) P f) (some (unless (same a) ls)) t) e
      (tried_room (EntriesOf (Is n) P f) (unless (same a) ls) refl (entries_drop (Is n) P f w o k key keyed (same a) ls c.each (key a) t (keyed.key_long a) (λ b q. decides a b ok q) gone))

  -- what a step did to slots it did to entries
  pub entries_stepped : (op : Operation) → KeyedStepped Is op w o k (f a) s t r → Tried (EntriesOf (Is n) P f) (keyed_step same n op a ls) t r
  entries_stepped op h = go op (h.tried (keyed.long a) keyed.inside n (map f ls) c.counted)
    where
      go : (op : Operation) → Tried (Is n) (slot_step op) t r → Tried (EntriesOf (Is n) P f) (keyed_step same n op a ls) t r
      go Add h = put h
      go Delete h = drop_out h
      go Replace h = put h

-- ---- a loop over the entries of a setting

-- entries of a setting, and a list that is kept by a key, which is k bytes at o of slots of w bytes: which bytes are such a list, how an entry is written, and
-- what it makes
pub record ByKey (E A : Type 0) (Is : ℕ → List (List ℕ) → List ℕ → Type 0) (w o k : ℕ) : Type 1 where
  pub cleared : (n : ℕ) (xs : List (List ℕ)) (s : List ℕ) → Is n xs s → Is n [] (replicate (length s) 0)
  pub form : E → List Field
  pub ends : Ends form
  pub whole : (e : E) → (n : ℕ) × (widths (form e) ≡ 8 * n)
  pub In : E → Type 0
  pub made : E → A
  pub Ok : A → Type 0
  pub bytes : A → List ℕ
  pub key : A → List ℕ
  pub keyed : Keyed w bytes o k key
  pub same : A → A → Bool
  pub decides : (a b : A) → Ok a → Ok b → same? (key b) (key a) ≡ same a b

module _ {E A : Type 0} {Is : ℕ → List (List ℕ) → List ℕ → Type 0} {w o k : ℕ} (B : ByKey E A Is w o k) where
  -- the list as bytes, and what an operation with one entry makes of it
  abbrev pub TableOf : ℕ → List A → List ℕ → Type 0
  TableOf n = EntriesOf (Is n) B.Ok B.bytes

  abbrev pub step_of : ℕ → Operation → E → List A → Option (List A)
  step_of n op e = keyed_step B.same n op (B.made e)

  -- an entry stands at a place, up to q, and x are the bytes of what it makes
  pub record Next (m : List ℕ) (at q : ℕ) (x : List ℕ) : Type 0 where
    pub entry : E
    pub stands : FieldsAt (B.form entry) m at q
    pub ok : B.Ok (B.made entry)
    pub slot : x ≡ B.bytes (B.made entry)

  module _ (op : Operation) (m : List ℕ) (p : Entries) (s : List ℕ) where
    -- on a region that was s, whatever its places, i entries are done, the others are left at a place, and it is now t
    abbrev pub KeyedLeft : ℕ → ℕ → List ℕ → Type 0
    KeyedLeft at i t = (n : ℕ) → Applying B.form B.ends B.whole B.In (step_of n op) (TableOf n) m s p.start p.count at (p.count - i) t

    -- what all entries in turn answer, from the table that the region is
    abbrev pub KeyedDone : List ℕ → Bool → Type 0
    KeyedDone t r = (n : ℕ) (ls : List A) (es : List E) → TableOf n ls s → Starting B.form m p.start p.count es → All B.In es
        → Tried (TableOf n) (in_turn (step_of n op) es ls) t r

    -- at the start all are left
    pub keyed_start : KeyedLeft p.start 0 s
    keyed_start n = let e : p.count ≡ p.count - 0 = omega arith in rw (sym e) applying_start

    -- at the end none is left
    pub keyed_end : (at i : ℕ) (t : List ℕ) → p.count ≤ i → KeyedLeft at i t → KeyedDone t true
    keyed_end at i t h g n ls es l e q =
        let (u, d, is) = applying_end (g n) (omega arith) es ls e q l in
        tried_room (TableOf n) u d is

    module _ (at i : ℕ) (t : List ℕ) (h : i < p.count) (g : KeyedLeft at i t) where
      -- no entry stands there, so this is not reached
      pub keyed_stuck : (u : List ℕ) (r : Bool) → ((e : E) (q : ℕ) → B.In e → FieldsAt (B.form e) m at q → ⊥) → KeyedDone u r
      keyed_stuck u r never n ls es l e q = absurd (applying_stuck (g n) (omega arith) never es ls e q l)

      -- one does, and the step with its slot answered r and left u
      module _ (q : ℕ) (x : List ℕ) (next : Next m at q x) (u : List ℕ) (r : Bool) (stepped : KeyedStepped Is op w o k x t u r) where
        turn : (n : ℕ) (ls : List A) → TableOf n ls t → Tried (TableOf n) (step_of n op next.entry ls) u r
        turn n ls l =
            entries_stepped Is B.Ok w B.bytes o k B.key B.keyed B.same B.decides n ls t l (B.made next.entry) next.ok u r op
            (subst (λ (y : List ℕ). KeyedStepped Is op w o k y t u r) next.slot stepped)

        -- it had room
        pub keyed_on : r ≡ true → KeyedLeft q (i + 1) u
        keyed_on z n =
            let d : p.count - (i + 1) ≡ p.count - i - 1 = omega arith in
            (rw d (applying_next (g n) (omega arith) next.entry q next.stands u (λ _ ls l. (turn n ls l).room z)))

        -- it had none
        pub keyed_full : r ≡ false → KeyedDone u false
        keyed_full z n ls es l e j =
            tried_full (TableOf n) (applying_full (g n) (omega arith) next.entry q next.stands (λ _ ls l. (turn n ls l).full z) es ls e j l)

  -- what was done to a region that was emptied where it is to be replaced was done to the region
  pub keyed_applied : (op : Operation) (m : List ℕ) (p : Entries) (s t u : List ℕ) (r : Bool) → t ≡ start_from op (replicate (length s) 0) s → KeyedDone op m p t u r
      → (n : ℕ) (ls : List A) (es : List E) → TableOf n ls s → Starting B.form m p.start p.count es → All B.In es → Tried (TableOf n) (in_turn (step_of n op) es (start_from op [] ls)) u r
  keyed_applied op m p s t u r e d n ls es l = d n (start_from op [] ls) es (table_started (TableOf n) [] ls s t op e (record { each = tt; counted = B.cleared n (map B.bytes ls) s l.counted }) l)
