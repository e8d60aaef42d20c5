-- The writing with reserved bits 0: "Reserved bits are .. written as 0".
use Rattle.std.specs.Prelude.{ℕ, zero, suc, ◌+◌, ◌*◌, ◌/◌, ◌%◌, ◌^◌, ◌<◌, ◌≢◌, List, [], ◌∷◌, ◌++◌}
use Rattle.lists.specs.Every.{All}
use Rattle.writing.specs.Fields.{Field, val, item, res, width, widths}
use Rattle.writing.specs.declared.Coding.{Coding}
use Rattle.writing.specs.Settings.{Setting}
use Rattle.writing.specs.Writing.{fields}

-- the field's value, 0 where it is reserved
abbrev pub value : Field → ℕ
value (val w v) = v
value (item w end v) = v
value (res w) = 0

-- the fields' values side by side, as one number
abbrev pub side_by_side : List Field → ℕ
side_by_side [] = 0
side_by_side (f ∷ fs) = value f * 2 ^ widths fs + side_by_side fs

-- the n bytes of a number, highest first
abbrev pub bytes : ℕ → ℕ → List ℕ
bytes zero v = []
bytes (suc n) v = v / 2 ^ (8 * n) % 256 ∷ bytes n v

-- the bytes of fields that are whole bytes wide, reserved bits 0
abbrev pub plain : List Field → List ℕ
plain fs = bytes (widths fs / 8) (side_by_side fs)

-- the bytes of a setting, reserved bits 0
abbrev pub canonical : Coding → Setting → List ℕ
canonical c s = plain (fields c s)

-- the bytes of settings, one after the other
abbrev pub canonical_all : Coding → List Setting → List ℕ
canonical_all c [] = []
canonical_all c (s ∷ ss) = canonical c s ++ canonical_all c ss

-- "only if every value fits its field, no text unit is 0 and no digit is 15"
abbrev pub FitsField : Field → Type 0
FitsField (val w v) = v < 2 ^ w
FitsField (item w end v) = (v < 2 ^ w) × (v ≢ end)
FitsField (res w) = Unit {0}

-- the setting has a writing
abbrev pub Fits : Coding → Setting → Type 0
Fits c s = All FitsField (fields c s)
