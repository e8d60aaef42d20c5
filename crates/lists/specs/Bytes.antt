-- Lists of which every element is a byte.
use Rattle.std.specs.Prelude.{List, ℕ, ◌<◌, get_or}

-- every element is a byte
abbrev pub Bytes : List ℕ → Type 0
Bytes l = (i : ℕ) → get_or l i 0 < 256
