-- Slots that are filled: a head with a text behind it, and the head of a line's slot. Assumes nothing.
use Rattle.lists.proofs.Kit.{ℕ, ◌-◌, ◌*◌, ◌<◌, ◌≡◌, refl, sym, ap, ap₂, ◌∙◌, List, [], ◌∷◌, ◌++◌, append-nil, arith, put_mid, mid_of, length, take, drop, replicate, length-append, length-drop, take_all}
use Rattle.slots.proofs.Parts.{put_part, get_part}
use Rattle.writing.specs.declared.LineFlags.{LineFlags}
use Rattle.writing.specs.Writing.{bit}
use Rattle.read_fields.specs.declared.numbers.NumberPlace.{NumberPlace}
use Rattle.read_fields.specs.declared.texts.TextPlace.{TextPlace}
use Rattle.tables.specs.Changing.{TextPut, SlotFilled}
use Rattle.tables.specs.Layout.{line_flags, digit_bytes}
use Rattle.tables.specs.LineHeads.{DigitsPut, LineHead}

-- ---- a head and a text

module _ (m : List ℕ) (p : TextPlace) (head s : List ℕ) where
  -- a slot has room for its head
  pub slot_narrow : length s < length head → (t : List ℕ) → SlotFilled m p head s t
  slot_narrow l t n us next is k w = absurd (omega arith)

  -- the head was copied, and the text put behind it
  pub slot_filled : (a y : List ℕ) → a ≡ take (length s) head ++ drop (length head) s → TextPut m p (mid_of (length head) (length a - length head) a) y
      → SlotFilled m p head s (put_mid (length head) (length a - length head) a y)
  slot_filled a y e put n us next is k w =
      let rest : List ℕ = drop (length head) s in
      let r : length rest ≡ 2 * n = omega (arith, length-drop (length head) s) in
      let d : a ≡ head ++ (rest ++ [])
      = e ∙ ap (λ (l : List ℕ). l ++ rest) (take_all (length s) head (omega arith)) ∙ ap (λ (l : List ℕ). head ++ l) (sym (append-nil rest)) in
      let q : length a - length head ≡ length rest = omega (arith, ap length d, length-append head (rest ++ []), length-append rest []) in
      let x : mid_of (length head) (length a - length head) a ≡ rest
      = ap (mid_of (length head) (length a - length head)) d ∙ get_part head rest [] (length head) (length a - length head) refl (sym q) in
      ap (λ (l : List ℕ). put_mid (length head) (length a - length head) l y) d
      ∙ put_part head rest [] y (length head) (length a - length head) refl (sym q)
      ∙ ap (λ (l : List ℕ). head ++ l) (append-nil y ∙ put n us next is k (ap length x ∙ r))

-- ---- a line's head

-- flags, IDtype and digits make it
pub head_made : (m : List ℕ) (f : LineFlags) (p : NumberPlace) (b c : ℕ) (y : List ℕ) → (f.priority < 4 → b ≡ line_flags f) → c ≡ bit f.pabx
    → length y ≡ 18 → DigitsPut m p (replicate 18 0) y → LineHead m f p (put_mid 2 18 (b ∷ c ∷ replicate 18 0) y)
head_made m f p b c y flags kind long digits = record {
  long = omega (arith, length-append y []);
  bytes = λ low ds next is. ap (λ (l : List ℕ). b ∷ c ∷ l) (append-nil y ∙ digits ds next is) ∙ ap₂ (λ (u v : ℕ). u ∷ v ∷ digit_bytes ds) (flags low) kind;
}
