-- When a setting has no room where texts share an area, and what one that has room leaves. Assumes nothing.
use Rattle.lists.proofs.Kit.{ℕ, ◌+◌, ◌-◌, ◌≤◌, ◌<◌, ◌≡◌, refl, sym, ap, ◌∙◌, subst, Bool, true, false, cond, true≢false, ◌↔◌, ◌⊎◌, inl, inr, List, [], ◌∷◌, Option, none, some, option_some_injective, option_some_ne_none, option_none_ne_some, arith, leb-true, le-leb}
use borrow.Author.Tests.{leb-false, lt-leb}
use Rattle.writing.specs.declared.Coding.{Coding}
use Rattle.writing.specs.declared.Kind.{Kind}
use Rattle.writing.specs.declared.Kind.TheVariants.{GroupContacts, IndividualContacts, Lines, QuickTexts, Channels, StatusTexts, Group, Individual, LineSlot}
use Rattle.writing.specs.Canonical.{Fits}
use Rattle.writing.specs.Ranges.{text_limits, InRange}
use Rattle.writing.specs.Settings.{Setting, kind}
use Rattle.tables.specs.declared.limits.Limits.{Limits}
use Rattle.tables.specs.Apply.{and_then, in_turn, own_after, change, within, apply}
use Rattle.tables.specs.Owns.{Own, own, put_own}
use Rattle.tables.specs.Tables.{Tables}
use Rattle.tables.proofs.Owns.{own_put}
use Rattle.tables.proofs.RoomSentences.{apply_change, came, no_room_kinds}
use Rattle.shared_texts.specs.Rooms.{Under}
use Rattle.tables.specs.declared.limits.Texts.{Texts}
use Rattle.tables.specs.declared.limits.Texts.TheVariants.{Placed, Shared}
use Rattle.tables.specs.Texts.{text_sum, text_size, TextRoom, Passes}
use Rattle.shared_texts.proofs.Sums.{sum_put, sum_kinds}

-- ---- within the area

-- what is kept where a test says so
kept_some : (b : Bool) (P : Type 0) → (b ≡ true) ↔ P → (t u : Tables) → (cond b (some t) none ≡ some u) ↔ ((t ≡ u) × P)
kept_some true P h t u = (λ e. (option_some_injective t u e, h.0 refl), λ p. ap some p.0)
kept_some false P h t u = (λ e. absurd (option_none_ne_some u e), λ p. absurd (true≢false (sym (h.1 p.1))))

kept_none : (b : Bool) (P : Type 0) → (b ≡ false) ↔ P → (t : Tables) → (cond b (some t) none ≡ none) ↔ P
kept_none true P h t = (λ e. absurd (option_some_ne_none t e), λ p. absurd (true≢false (h.1 p)))
kept_none false P h t = (λ e. h.0 refl, λ p. refl)

-- tables within it stay
within_some : (x : Texts) (t u : Tables) → (within x t ≡ some u) ↔ ((t ≡ u) × TextRoom x (text_sum t))
within_some Placed t u = (λ e. (option_some_injective t u e, tt), λ p. ap some p.0)
within_some (Shared a) t u = kept_some _ (text_sum t ≤ a) (leb-true _ _, le-leb _ _) t u

-- others have no room
within_none : (x : Texts) (t : Tables) → (within x t ≡ none) ↔ Passes x (text_sum t)
within_none Placed t = (λ e. absurd (option_some_ne_none t e), λ p. absurd p)
within_none (Shared a) t = kept_none _ (a < text_sum t) (leb-false _ _, lt-leb _ _) t

-- what comes of two steps came of both
pub then_some : {A B : Type 0} (o : Option A) (f : A → Option B) (b : B) → and_then o f ≡ some b → (a : A) × (o ≡ some a) × (f a ≡ some b)
then_some none f b e = absurd (option_none_ne_some b e)
then_some (some a) f b e = (a, refl, e)

-- ---- a setting

module _ (lim : Limits) (s : Setting) (t : Tables) where
  -- NO-ROOM-EXACTLY: a setting has no room exactly if a table is full at some entry, or the texts held after it, summed, pass the area
  pub no_room_exactly : (apply lim s t ≡ none) ↔ ((change lim s t ≡ none) ⊎ ((u : Tables) × (change lim s t ≡ some u) × Passes lim.texts (text_sum u)))
  no_room_exactly = go (change lim s t) refl
    where
      go : (o : Option Tables) → change lim s t ≡ o → (and_then o (within lim.texts) ≡ none) ↔ ((o ≡ none) ⊎ ((u : Tables) × (o ≡ some u) × Passes lim.texts (text_sum u)))
      go none e = (λ h. inl refl, λ h. refl)
      go (some u) e = (λ h. inr (u, refl, (within_none lim.texts u).0 h), back)
        where
          back : (some u ≡ none) ⊎ ((v : Tables) × (some u ≡ some v) × Passes lim.texts (text_sum v)) → within lim.texts u ≡ none
          back (inl h) = absurd (option_some_ne_none u h)
          back (inr (v, h, l)) = (within_none lim.texts u).1 (subst (λ (w : Tables). Passes lim.texts (text_sum w)) (sym (option_some_injective u v h)) l)

  -- APPLY-EXACTLY: it has room, and leaves u, exactly if it changes the tables to u and the texts of u are within the area
  pub apply_exactly : (u : Tables) → (apply lim s t ≡ some u) ↔ ((change lim s t ≡ some u) × TextRoom lim.texts (text_sum u))
  apply_exactly u = (
    λ e.
        let (v, p, q) = then_some (change lim s t) (within lim.texts) u e in
        let (r, l) = (within_some lim.texts v u).0 q in
        (p ∙ ap some r, subst (λ (w : Tables). TextRoom lim.texts (text_sum w)) r l),
    λ h. ap (λ (o : Option Tables). and_then o (within lim.texts)) h.0 ∙ (within_some lim.texts u u).1 (refl, h.1),
  )

  -- FREED: it has room whenever the sum after it is within the area, whatever was held before: what was freed is used again
  pub freed : (u : Tables) → change lim s t ≡ some u → TextRoom lim.texts (text_sum u) → apply lim s t ≡ some u
  freed u e h = (apply_exactly u).1 (e, h)

  -- a setting that has no room is one of lines, of channels or of contacts, or the sum passes the area
  pub no_room_kinds_or_sum : apply lim s t ≡ none → ((kind s ≡ Lines) ⊎ (kind s ≡ Channels) ⊎ (kind s ≡ GroupContacts) ⊎ (kind s ≡ IndividualContacts)) ⊎ ((u : Tables) × (change lim s t ≡ some u) × Passes lim.texts (text_sum u))
  no_room_kinds_or_sum e = go (no_room_exactly.0 e)
    where
      go : (change lim s t ≡ none) ⊎ ((u : Tables) × (change lim s t ≡ some u) × Passes lim.texts (text_sum u))
          → ((kind s ≡ Lines) ⊎ (kind s ≡ Channels) ⊎ (kind s ≡ GroupContacts) ⊎ (kind s ≡ IndividualContacts)) ⊎ ((u : Tables) × (change lim s t ≡ some u) × Passes lim.texts (text_sum u))
      go (inl h) = inl (no_room_kinds lim s t h)
      go (inr h) = inr h

  -- SUM-CHANGED: the sum after it is the sum before, less its own table's texts before, with those after
  pub sum_changed : (u : Tables) → change lim s t ≡ some u → text_sum u ≡ text_sum t - text_size (kind s) (own (kind s) t) + text_size (kind s) (own (kind s) u)
  sum_changed u e =
      let k : Kind = kind s in
      let (x, p, q) = came (put_own k t) (own_after lim s (own k t)) u e in
      sym (ap text_sum q) ∙ sum_put k t x ∙ ap (λ (y : Own k). text_sum t - text_size k (own k t) + text_size k y) (sym (own_put k t x) ∙ ap (own k) q)

-- ---- settings in turn

-- TURN-CHANGE: where settings have room in turn, they leave what they change the tables to
pub turn_change : (lim : Limits) (l : List Setting) (t u : Tables) → in_turn (apply lim) l t ≡ some u → in_turn (change lim) l t ≡ some u
turn_change lim [] t u e = e
turn_change lim (s ∷ l) t u e =
    let (v, p, q) = then_some (apply lim s t) (in_turn (apply lim) l) u e in
    ap (λ (o : Option Tables). and_then o (in_turn (change lim) l)) (apply_change lim s t v p) ∙ turn_change lim l v u q

-- ---- tables with less text

-- UNDER-SUM: tables that have no more text than others, table by table, have room where those have
pub under_sum : (u t : Tables) → Under u t → text_sum u ≤ text_sum t
under_sum u t h =
    omega (arith, sum_kinds u, sum_kinds t, h QuickTexts, h StatusTexts, h Group, h Individual, h LineSlot, h GroupContacts, h IndividualContacts, h Lines)
