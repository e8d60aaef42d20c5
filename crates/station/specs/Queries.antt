-- Comparing the hash of a result query with the one kept. No promise cites this.
use Rattle.std.specs.Prelude.{ℕ, ◌≡◌, ◌≢◌, Bool, true, false, List, map, length}
use Rattle.writing.specs.Fields.{val}
use Rattle.writing.specs.Ranges.{HashSize}
use Rattle.writing.specs.Settings.{Hash}
use Rattle.read_fields.specs.Places.{FieldsAt}
use Rattle.read_fields.specs.declared.hashes.HashPlace.{HashPlace}
use Rattle.tables.specs.Allowed.{HashOk}
use Rattle.tables.specs.Layout.{hash_bytes}

-- the hash h that stands at a place is the kept one, and not of code 0
abbrev pub SameAs : Hash → Hash → Bool → Type 0
SameAs h k true = (h.code ≢ 0) × (h ≡ k)
SameAs h k false = h.code ≢ 0 → h ≡ k → ⊥

-- whether it is, for the hash that stands there and the one that these bytes keep
abbrev pub HashSame : List ℕ → HashPlace → List ℕ → Bool → Type 0
HashSame m place hash r =
    (h k : Hash) → HashOk k → hash ≡ hash_bytes k → h.code ≡ place.code → HashSize h.code (length h.value)
    → FieldsAt (map (val 8) h.value) m place.start (length m) → SameAs h k r
