-- The head of a line's slot: what making it from a message answers. What only inner functions promise stands last.
use Rattle.std.specs.Prelude.{ℕ, suc, ◌<◌, ◌≡◌, List, ◌∷◌, map, length, get_or}
use Rattle.slots.specs.Slots.{pad}
use Rattle.writing.specs.declared.LineFlags.{LineFlags}
use Rattle.writing.specs.Settings.{Number}
use Rattle.read_fields.specs.declared.numbers.NumberPlace.{NumberPlace}
use Rattle.read_fields.specs.TextsAndNumbers.{NumberIs}
use Rattle.tables.specs.Layout.{line_flags, line_key_bytes}

-- all bytes of a line before its text: the flags, then the key
abbrev pub head_bytes : LineFlags → Number → List ℕ
head_bytes f ds = line_flags f ∷ line_key_bytes (record { pabx = f.pabx; number = ds })

-- r is the head of the line with these flags whose number stands at a place; it is 20 bytes whatever stands there
pub record LineHead (m : List ℕ) (f : LineFlags) (p : NumberPlace) (r : List ℕ) : Type 0 where
  pub long : length r ≡ 20
  pub bytes : f.priority < 4 → (ds : Number) (next : ℕ) → NumberIs m p ds next → r ≡ head_bytes f ds

-- ---- inner steps: no promise cites these

-- r is digit i of the number at a place, and half a byte
abbrev pub DigitIs : List ℕ → NumberPlace → ℕ → ℕ → Type 0
DigitIs m p i r = (r < 16) × ((ds : Number) (next : ℕ) → NumberIs m p ds next → i < length ds → r ≡ get_or ds i 0)

-- r is digit i as it is kept, one more than itself, or 0 past the last
abbrev pub DigitKept : List ℕ → NumberPlace → ℕ → ℕ → Type 0
DigitKept m p i r = (ds : Number) (next : ℕ) → NumberIs m p ds next → r ≡ get_or (map suc ds) i 0

-- the bytes s become the number's digits as they are kept, and zeros after them
abbrev pub DigitsPut : List ℕ → NumberPlace → List ℕ → List ℕ → Type 0
DigitsPut m p s t = (ds : Number) (next : ℕ) → NumberIs m p ds next → t ≡ pad 0 (length s) (map suc ds)
