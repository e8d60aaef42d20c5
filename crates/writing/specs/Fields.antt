-- Fields of bits, "in network order, first bit highest": when a list of fields stands in a list of bits.
use Rattle.std.specs.Prelude.{ℕ, zero, suc, ◌+◌, ◌/◌, ◌%◌, ◌^◌, ◌<◌, ◌≡◌, ◌≢◌, List, [], ◌∷◌, ◌++◌}

-- the w low bits of v, highest first
abbrev pub bits : ℕ → ℕ → List ℕ
bits zero v = []
bits (suc w) v = v / 2 ^ w % 2 ∷ bits w v

-- the bits of a list of bytes
abbrev pub bits_of : List ℕ → List ℕ
bits_of [] = []
bits_of (b ∷ bs) = bits 8 b ++ bits_of bs

pub data Field : Type 0 where
  val : (w v : ℕ) → Field  -- w bits with the value v
  item : (w end v : ℕ) → Field  -- w bits with the value v, which is not the end mark
  res : (w : ℕ) → Field  -- w reserved bits, "ignored when read and written as 0"

abbrev pub width : Field → ℕ
width (val w v) = w
width (item w end v) = w
width (res w) = w

abbrev pub widths : List Field → ℕ
widths [] = 0
widths (f ∷ fs) = width f + widths fs

-- the field may have x for its value
abbrev pub MayHave : Field → ℕ → Type 0
MayHave (val w v) x = x ≡ v
MayHave (item w end v) x = (x ≡ v) × (v ≢ end)
MayHave (res w) x = Unit {0}

-- the bits are the fields, in order, and every value fits its field
abbrev pub Shows : List Field → List ℕ → Type 0
Shows [] bs = bs ≡ []
Shows (f ∷ fs) bs = (x : ℕ) × (rest : List ℕ) × MayHave f x × (x < 2 ^ width f) × (bs ≡ bits (width f) x ++ rest) × Shows fs rest

-- the fields of each, in order
abbrev pub each : {A : Type 0} → (A → List Field) → List A → List Field
each f [] = []
each f (a ∷ l) = f a ++ each f l
