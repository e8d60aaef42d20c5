-- A text of either coding that stands in the area, written as 16-bit units at the start of the scratch. Assumes nothing.
use Rattle.lists.proofs.Kit.{ℕ, ◌+◌, ◌*◌, ◌-◌, ◌≤◌, ◌<◌, ◌≡◌, refl, ap, ap₂, ◌∙◌, subst, cons≢nil, List, [], ◌∷◌, ◌++◌, map, append-nil, sub-zero, arith, length, take, drop, replicate, mid_of, mid_len, post_of, take_all, drop_of_length-le}
use Rattle.lists.specs.Bytes.{Bytes}
use Rattle.slots.specs.Slots.{flat, pad, u16}
use Rattle.slots.proofs.Pads.{pad_is}
use Rattle.writing.specs.declared.Coding.{Coding}
use Rattle.writing.specs.declared.Coding.TheVariants.{Unicode16, EightBit}
use Rattle.writing.specs.Settings.{Text}
use Rattle.writing.specs.Writing.{text}
use Rattle.read_fields.specs.declared.texts.TextPlace.{TextPlace}
use Rattle.read_fields.specs.Places.{FieldsAt}
use Rattle.read_fields.specs.TextsAndNumbers.{UnitBytes}
use Rattle.tables.proofs.TextLaws.{kept, TextOut, text_out}
use Rattle.read_deeds.specs.ReadDeeds.{TextSeen}
use Rattle.screen.specs.Rows.{unit_bytes}
use Rattle.screen.proofs.NumberLaws.{unit_length}
use Rattle.plain_rows.specs.Naming.{TextWritten}

-- ---- bytes of units

-- a unit has two bytes, or one
unicode_bytes : UnitBytes Unicode16 2
unicode_bytes = record { wide = refl; some_byte = omega arith; few = omega arith }

eight_bytes : UnitBytes EightBit 1
eight_bytes = record { wide = refl; some_byte = omega arith; few = omega arith }

-- as many as its coding says
size_of : (c : Coding) → (k : ℕ) × UnitBytes c k
size_of Unicode16 = (2, unicode_bytes)
size_of EightBit = (1, eight_bytes)

-- no bytes are kept as none
kept_none : (c : Coding) → kept c [] ≡ []
kept_none Unicode16 = refl
kept_none EightBit = refl

-- bytes filled up to their own number
pad_whole : (n : ℕ) (xs : List ℕ) → length xs ≡ n → pad 0 n xs ≡ xs
pad_whole n xs e =
    let z : n - length xs ≡ 0 = omega arith in
    pad_is 0 n xs ∙ ap₂ (λ (a : List ℕ) (i : ℕ). a ++ replicate i 0) (take_all n xs (omega arith)) z ∙ append-nil xs

-- bytes copied over as many
copy_whole : (b : ℕ) (x y : List ℕ) → length x ≡ b → length y ≡ b → take (length y) x ++ drop (length x) y ≡ x
copy_whole b x y p q = ap₂ (λ (u v : List ℕ). u ++ v) (take_all (length y) x (omega arith)) (drop_of_length-le y {i = length x} (omega arith)) ∙ append-nil x

-- ---- the text

module _ (m : List ℕ) (h : Bytes m) (p : TextPlace) where
  -- a text that is not empty stands in the area
  stands_in : (c : Coding) (k : ℕ) → UnitBytes c k → p.coding ≡ c → (u : ℕ) (us : Text) → TextSeen m p (u ∷ us) → TextOut c k m p.start (u ∷ us)
  stands_in c k size e u us x =
      let (next, is) = x.there cons≢nil in
      text_out c k size m p.start next (u ∷ us) h (subst (λ (d : Coding). FieldsAt (text d (u ∷ us)) m p.start next) e is.stands)

  -- its bytes are kept as its units
  kept_seen : (c : Coding) (k : ℕ) → UnitBytes c k → p.coding ≡ c → (us : Text) → TextSeen m p us → kept c (take (k * p.units) (drop p.start m)) ≡ unit_bytes us
  kept_seen c k size e [] x =
      let z : k * p.units ≡ 0 = ap (λ (i : ℕ). k * i) x.units ∙ omega arith in
      ap (λ (i : ℕ). kept c (take i (drop p.start m))) z ∙ kept_none c
  kept_seen c k size e (u ∷ us) x = ap (λ (i : ℕ). kept c (take (k * i) (drop p.start m))) x.units ∙ (stands_in c k size e u us x).bytes

  module _ (s : List ℕ) where
    -- no text has more units, or needs more scratch
    pub text_long : 32 < p.units → TextWritten m p s s 0
    text_long l us x short big = absurd (omega (arith, x.units))

    pub text_wide : length s < 2 * p.units → TextWritten m p s s 0
    text_wide l us x short big = absurd (omega (arith, x.units))

    -- a text that does not end in the area is empty, and nothing is written
    pub text_outside : (c : Coding) (k : ℕ) → UnitBytes c k → p.coding ≡ c → (p.start + k * p.units ≤ length m → ⊥) → TextWritten m p s s 0
    text_outside c k size e never [] x short big = record { bytes = refl; many = refl }
    text_outside c k size e never (u ∷ us) x short big =
        absurd (never (omega (arith, ap (λ (i : ℕ). k * i) x.units, (stands_in c k size e u us x).inside)))

    -- whichever its coding is, where the area ends before its start
    pub text_past : length m < p.start → TextWritten m p s s 0
    text_past l = let (k, size) = size_of p.coding in text_outside p.coding k size refl (λ q. omega arith)

    -- by its coding
    pub text_past_16 : p.coding ≡ Unicode16 → p.start ≤ length m → length m - p.start < 2 * p.units → TextWritten m p s s 0
    text_past_16 e l f = text_outside Unicode16 2 unicode_bytes e (λ q. omega arith)

    pub text_past_8 : p.coding ≡ EightBit → p.start ≤ length m → length m - p.start < p.units → TextWritten m p s s 0
    text_past_8 e l f = text_outside EightBit 1 eight_bytes e (λ q. omega arith)

    -- its units were written before the bytes that stay
    text_written : (d : List ℕ) → ((us : Text) → TextSeen m p us → d ≡ unit_bytes us) → TextWritten m p s (d ++ post_of 0 (2 * p.units - 0) s) (2 * p.units)
    text_written d f us x short big =
        let e : 2 * p.units - 0 ≡ 2 * length us = omega (arith, x.units) in
        record { bytes = ap₂ (λ (a : List ℕ) (i : ℕ). a ++ drop i s) (f us x) e; many = omega (arith, x.units) }

    module _ (room : 2 * p.units ≤ length s) (d : List ℕ) where
      -- a text of 16-bit units was copied
      pub text_copied : p.coding ≡ Unicode16 → p.start + 2 * p.units ≤ length m
          → d ≡ take (length (mid_of 0 (2 * p.units - 0) s)) (mid_of p.start (p.start + 2 * p.units - p.start) m) ++ drop (length (mid_of p.start (p.start + 2 * p.units - p.start) m)) (mid_of 0 (2 * p.units - 0) s)
          → TextWritten m p s (d ++ post_of 0 (2 * p.units - 0) s) (2 * p.units)
      text_copied e fits w =
          let i : p.start + 2 * p.units - p.start ≡ 2 * p.units = omega arith in
          let src : List ℕ = mid_of p.start (p.start + 2 * p.units - p.start) m in
          let a : length src ≡ 2 * p.units = mid_len p.start (p.start + 2 * p.units) m fits ∙ i in
          let b : length (mid_of 0 (2 * p.units - 0) s) ≡ 2 * p.units = mid_len 0 (2 * p.units) s room ∙ sub-zero (2 * p.units) in
          text_written d (λ us x. w ∙ copy_whole (2 * p.units) src (mid_of 0 (2 * p.units - 0) s) a b ∙ ap (λ (j : ℕ). take j (drop p.start m)) i ∙ kept_seen Unicode16 2 unicode_bytes e us x)

      -- one of eight-bit units was widened
      pub text_widened : p.coding ≡ EightBit → p.start + p.units ≤ length m
          → d ≡ pad 0 (length (mid_of 0 (2 * p.units - 0) s)) (flat (map u16 (mid_of p.start (p.start + p.units - p.start) m)))
          → TextWritten m p s (d ++ post_of 0 (2 * p.units - 0) s) (2 * p.units)
      text_widened e fits w =
          let i : p.start + p.units - p.start ≡ 1 * p.units = omega arith in
          let src : List ℕ = mid_of p.start (p.start + p.units - p.start) m in
          let a : length src ≡ 1 * p.units = mid_len p.start (p.start + p.units) m fits ∙ i in
          let b : length (mid_of 0 (2 * p.units - 0) s) ≡ 2 * p.units = mid_len 0 (2 * p.units) s room ∙ sub-zero (2 * p.units) in
          text_written d (λ us x. w ∙ pad_whole (length (mid_of 0 (2 * p.units - 0) s)) (unit_bytes src) (omega (arith, unit_length src)) ∙ ap (λ (j : ℕ). unit_bytes (take j (drop p.start m))) i ∙ kept_seen EightBit 1 eight_bytes e us x)
