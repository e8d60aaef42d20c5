-- An indexed table is written as a setting for each place, whatever its entries are. Assumes nothing.
use Rattle.lists.proofs.Kit.{ℕ, suc, ◌+◌, ◌-◌, ◌*◌, ◌≤◌, ◌<◌, ◌≡◌, refl, ap, false, List, [], ◌∷◌, Option, none, add-one, arith, mid_of, length, get_or, drop, drop_of_length-le, drop-cons}
use Rattle.lists.proofs.Every.{all_get}
use Rattle.slots.specs.Slots.{zeros?, Present, Placed}
use Rattle.slots.proofs.Tables.{place_read}
use Rattle.writing.specs.Canonical.{canonical, canonical_all}
use Rattle.writing.specs.Settings.{Setting, unicode16}
use Rattle.export_write.specs.EntrySettings.{slots}
use Rattle.export_write.specs.Writers.{Wrote, SlotIn, WritesSetting}
use Rattle.export_write.proofs.WroteLaws.{Writing, writing_start, writing_more, writing_end}

-- entries stand in slots of w bytes, and those that have P are not all zeros
pub record Slotted {A : Type 0} (P : A → Type 0) (w : ℕ) (f : A → List ℕ) : Type 0 where
  pub wide : 0 < w
  pub long : (a : A) → length (f a) ≡ w
  pub shown : (a : A) → P a → zeros? (f a) ≡ false

-- a setting for each place
pub slots_length : {A : Type 0} (setting : ℕ → Option A → Setting) (i : ℕ) (os : List (Option A)) → length (slots setting i os) ≡ length os
slots_length setting i [] = refl
slots_length setting i (o ∷ os) = ap suc (slots_length setting (suc i) os)

-- the settings from an index on: that of the place there, and the others
slots_from : {A : Type 0} (setting : ℕ → Option A → Setting) (i : ℕ) (os : List (Option A)) → i < length os
    → slots setting i (drop i os) ≡ setting i (get_or os i none) ∷ slots setting (i + 1) (drop (i + 1) os)
slots_from setting i os h = rw add-one (ap (slots setting i) (drop-cons os i none h))

module _ {A : Type 0} {P : A → Type 0} {w : ℕ} {f : A → List ℕ} (q : Slotted P w f) (setting : ℕ → Option A → Setting) (n : ℕ) (region buffer₀ : List ℕ) (at : ℕ) where
  -- the settings up to an index are written
  abbrev pub Placing : (buffer : List ℕ) → (to i : ℕ) → Type 0
  Placing buffer to i =
      (os : List (Option A)) → Placed P w f n os region
      → Writing (canonical_all unicode16 (slots setting 0 os)) at buffer₀ buffer to (canonical_all unicode16 (slots setting i (drop i os)))

  -- none is yet
  pub placing_start : at ≤ length buffer₀ → Placing buffer₀ at 0
  placing_start h os t = writing_start (canonical_all unicode16 (slots setting 0 os)) at buffer₀ h

  -- and the next
  pub placing_more : (buffer after : List ℕ) (to i room r : ℕ) → i < n → Placing buffer to i
      → WritesSetting (SlotIn P w f (mid_of (i * w) (i * w + w - i * w) region)) (setting i) to room buffer after r → Placing after r (i + 1)
  placing_more buffer after to i room r low g h os t =
      let k : i < length os = omega (arith, t.many) in
      let o : Option A = get_or os i none in
      writing_more (canonical_all unicode16 (slots setting 0 os)) at to r buffer₀ buffer after (canonical_all unicode16 (slots setting i (drop i os)))
      (canonical unicode16 (setting i o)) (canonical_all unicode16 (slots setting (i + 1) (drop (i + 1) os))) (g os t)
      (ap (canonical_all unicode16) (slots_from setting i os k))
      (h.wrote o (all_get (Present P) os i none t.each k, place_read P w f q.long n os region t i low))

  -- none is left
  pub placing_end : (buffer : List ℕ) (to i : ℕ) → n ≤ i → Placing buffer to i
      → (os : List (Option A)) → Placed P w f n os region → Wrote (canonical_all unicode16 (slots setting 0 os)) at buffer₀ buffer to
  placing_end buffer to i high g os t =
      writing_end (canonical_all unicode16 (slots setting 0 os)) at to buffer₀ buffer (canonical_all unicode16 (slots setting i (drop i os))) (g os t)
      (ap (λ (l : List (Option A)). canonical_all unicode16 (slots setting i l)) (drop_of_length-le os {i = i} (omega (arith, t.many))))
