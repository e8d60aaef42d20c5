-- Fields and settings at a place of a message.
use Rattle.std.specs.Prelude.{ℕ, ◌+◌, ◌*◌, ◌≡◌, List, [], ◌∷◌, ◌++◌, length, drop}
use Rattle.writing.specs.Fields.{bits_of, Field, Shows}
use Rattle.writing.specs.declared.Coding.{Coding}
use Rattle.writing.specs.Settings.{Setting}
use Rattle.writing.specs.Writing.{fields}

-- the fields are written in m from place `from`, and end before place `next`
pub record FieldsAt (fs : List Field) (m : List ℕ) (from next : ℕ) : Type 0 where
  pub bytes : List ℕ
  pub rest : List ℕ
  pub split : drop from m ≡ bytes ++ rest
  pub ends : next ≡ from + length bytes
  pub written : Shows fs (bits_of bytes)

-- the setting is written in m from place `from`, and ends before place `next`
abbrev pub StandsAt : Coding → List ℕ → ℕ → ℕ → Setting → Type 0
StandsAt c m from next s = FieldsAt (fields c s) m from next

-- the number that bytes make behind n, highest first
abbrev pub be : ℕ → List ℕ → ℕ
be n [] = n
be n (b ∷ l) = be (n * 256 + b) l
