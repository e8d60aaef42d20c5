-- A number's digits in a message, and as they are kept. Assumes nothing.
use Rattle.lists.proofs.Kit.{◌≡◌, refl, sym, ap, ◌∙◌, subst, List, [], ◌∷◌, ◌++◌, map, append-nil, ℕ, zero, suc, ◌+◌, ◌/◌, ◌%◌, ◌≤◌, ◌<◌, not-suc-le-zero, le_of_suc-le-suc, arith, length, take, drop, get_or, set, list_getD_eq_default, length-map, drop_of_length-le, take_all}
use Rattle.lists.specs.Bytes.{Bytes}
use Rattle.lists.proofs.Seqs.{get_d_map}
use Rattle.slots.specs.Slots.{pad}
use Rattle.slots.proofs.Pads.{pad_length}
use Rattle.slots.proofs.Runs.{copy_more}
use Rattle.writing.specs.Fields.{val, item}
use Rattle.writing.specs.Settings.{Number}
use Rattle.writing.specs.Writing.{number}
use Rattle.read_fields.specs.declared.numbers.NumberPlace.{NumberPlace}
use Rattle.read_fields.specs.TextsAndNumbers.{NumberIs}
use Rattle.read_fields.specs.Places.{FieldsAt, be}
use Rattle.read_fields.proofs.Heads.{head_out, be_turn}
use Rattle.tables.specs.LineHeads.{DigitIs, DigitKept, DigitsPut}

-- ---- where a digit stands

-- digit i is half of the byte at q
pub record Half (m : List ℕ) (ds : Number) (i q : ℕ) : Type 0 where
  pub even : i % 2 ≡ 0 → get_or ds i 0 ≡ get_or m q 0 / 16
  pub odd : i % 2 ≡ 1 → get_or ds i 0 ≡ get_or m q 0 % 16

-- one byte as a number
one_byte : (m : List ℕ) (p : ℕ) → p + 1 ≤ length m → be 0 (take 1 (drop p m)) ≡ get_or m p 0
one_byte m p r =
    let e : get_or m (p + 0) 0 ≡ get_or m p 0 = ap (λ (i : ℕ). get_or m i 0) (omega arith) in
    omega (arith, be_turn m p 0 (omega arith), e)

module _ (m : List ℕ) (h : Bytes m) where
  -- the digit in place i of a number that stands at p
  pub digit_here : (ds : Number) (p next i : ℕ) → FieldsAt (number ds) m p next → i < length ds → Half m ds i (p + i / 2)
  digit_here [] p next i x l = absurd (omega arith)
  digit_here (a ∷ []) p next zero x l =
      let (r, k, y) = head_out (item 4 15 a ∷ val 4 15 ∷ []) [] m p 1 refl (omega arith) h next x in
      let e : p + 0 / 2 ≡ p = omega arith in
      subst (Half m (a ∷ []) 0) (sym e) (record { even = λ z. omega (arith, one_byte m p r, h p, k.0.0); odd = λ z. absurd (omega arith) })
  digit_here (a ∷ []) p next (suc i) x l = absurd (omega arith)
  digit_here (a ∷ b ∷ ds) p next zero x l =
      let (r, k, y) = head_out (item 4 15 a ∷ item 4 15 b ∷ []) (number ds) m p 1 refl (omega arith) h next x in
      let e : p + 0 / 2 ≡ p = omega arith in
      subst (Half m (a ∷ b ∷ ds) 0) (sym e) (record { even = λ z. omega (arith, one_byte m p r, h p, k.0.0); odd = λ z. absurd (omega arith) })
  digit_here (a ∷ b ∷ ds) p next (suc zero) x l =
      let (r, k, y) = head_out (item 4 15 a ∷ item 4 15 b ∷ []) (number ds) m p 1 refl (omega arith) h next x in
      let e : p + 1 / 2 ≡ p = omega arith in
      subst (Half m (a ∷ b ∷ ds) 1) (sym e) (record { even = λ z. absurd (omega arith); odd = λ z. omega (arith, one_byte m p r, h p, k.1.0.0) })
  digit_here (a ∷ b ∷ ds) p next (suc (suc i)) x l =
      let (r, k, y) = head_out (item 4 15 a ∷ item 4 15 b ∷ []) (number ds) m p 1 refl (omega arith) h next x in
      let z = digit_here ds (p + 1) next i y (omega arith) in
      let e : p + 1 + i / 2 ≡ p + suc (suc i) / 2 = omega arith in
      subst (Half m (a ∷ b ∷ ds) (suc (suc i))) e (record { even = λ v. z.even (omega arith); odd = λ v. z.odd (omega arith) })

  module _ (p : NumberPlace) (i : ℕ) where
    -- the high half
    pub digit_even : (b : ℕ) → b ≡ get_or m (p.start + i / 2) 0 → i % 2 ≡ 0 → DigitIs m p i (b / 16)
    digit_even b k e = (omega (arith, h (p.start + i / 2)), λ ds next is l. ap (◌/ 16) k ∙ sym ((digit_here ds p.start next i is.stands l).even e))

    -- the low half
    pub digit_odd : (b : ℕ) → b ≡ get_or m (p.start + i / 2) 0 → (i % 2 ≡ 0 → ⊥) → DigitIs m p i (b % 16)
    digit_odd b k e = (omega arith, λ ds next is l. ap (◌% 16) k ∙ sym ((digit_here ds p.start next i is.stands l).odd (omega arith)))

-- ---- digits as they are kept

-- a digit that stands is kept as one more
pub digit_more : (m : List ℕ) (p : NumberPlace) (i d : ℕ) → i < p.digits → DigitIs m p i d → DigitKept m p i (d + 1)
digit_more m p i d l h ds next is =
    let k : i < length ds = omega (arith, is.digits) in
    let e : d ≡ get_or ds i 0 = h.1 ds next is k in
    omega (arith, get_d_map suc ds i 0 0 k)

-- past the last digit it is 0
pub digit_past : (m : List ℕ) (p : NumberPlace) (i : ℕ) → p.digits ≤ i → DigitKept m p i 0
digit_past m p i l ds next is = sym (list_getD_eq_default (map suc ds) 0 {n = i} (omega (arith, is.digits, length-map ds suc)))

-- what stands in place i of a list that is filled up
pad_get : (n : ℕ) (xs : List ℕ) (i : ℕ) → i < n → get_or (pad 0 n xs) i 0 ≡ get_or xs i 0
pad_get zero xs i h = absurd (not-suc-le-zero h)
pad_get (suc n) [] zero h = refl
pad_get (suc n) [] (suc i) h = pad_get n [] i (le_of_suc-le-suc h)
pad_get (suc n) (x ∷ xs) zero h = refl
pad_get (suc n) (x ∷ xs) (suc i) h = pad_get n xs i (le_of_suc-le-suc h)

-- the first i bytes of s are digits as they are kept, and t are the bytes so far
abbrev pub DigitsSoFar : List ℕ → NumberPlace → List ℕ → ℕ → List ℕ → Type 0
DigitsSoFar m p s i t = (ds : Number) (next : ℕ) → NumberIs m p ds next → t ≡ take i (pad 0 (length s) (map suc ds)) ++ drop i s

module _ (m : List ℕ) (p : NumberPlace) (s : List ℕ) (i : ℕ) (t : List ℕ) (g : DigitsSoFar m p s i t) where
  -- one more digit
  pub digits_more : (d : ℕ) → i < length s → DigitKept m p i d → DigitsSoFar m p s (i + 1) (set t i d)
  digits_more d l k ds next is =
      let x : List ℕ = pad 0 (length s) (map suc ds) in
      let e : d ≡ get_or x i 0 = k ds next is ∙ sym (pad_get (length s) (map suc ds) i l) in
      (rw (g ds next is, e) (copy_more x s i (omega (arith, pad_length 0 (length s) (map suc ds))) l))

  -- all are put
  pub digits_put : length s ≤ i → i ≤ length s → DigitsPut m p s t
  digits_put l k ds next is =
      let x : List ℕ = pad 0 (length s) (map suc ds) in
      let n : length x ≡ length s = pad_length 0 (length s) (map suc ds) in
      g ds next is ∙ (rw (take_all i x (omega arith), drop_of_length-le s {i = i} l, append-nil))
