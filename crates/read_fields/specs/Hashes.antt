-- What reading a hash value answers: it is there, with its place and what follows it, or none is.
use Rattle.std.specs.Prelude.{ℕ, ◌≤◌, ◌<◌, ◌≡◌, List, map, length, Option, Some, None}
use Rattle.writing.specs.Fields.{val}
use Rattle.writing.specs.Ranges.{HashSize}
use Rattle.read_fields.specs.Places.{FieldsAt}
use Rattle.read_fields.specs.declared.hashes.HashPlace.{HashPlace}

-- a hash value of this code stands at `at`, or none does
abbrev pub HashAt : List ℕ → ℕ → ℕ → Option (HashPlace × ℕ) → Type 0
HashAt m at code (Some (p, next)) =
    (v : List ℕ) × (p.start ≡ at) × (p.code ≡ code) × HashSize code (length v) × FieldsAt (map (val 8) v) m at next
HashAt m at code None = (v : List ℕ) (next : ℕ) → HashSize code (length v) → FieldsAt (map (val 8) v) m at next → ⊥

-- so many bytes has a hash value of this code, and 0 stands for a code out of range
abbrev pub SizeOf : ℕ → ℕ → Type 0
SizeOf code size = (code ≤ 2 → HashSize code size) × (2 < code → size ≡ 0)
