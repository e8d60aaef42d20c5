-- The characters of a text of 16-bit units, and their bytes in UTF-8.
use Rattle.std.specs.Prelude.{ℕ, ◌+◌, ◌*◌, ◌/◌, ◌%◌, Bool, false, cond, List, [], ◌∷◌, eqb, ltb}
use Rattle.std.specs.List.{flat_map}

-- ---- characters

-- the units of bytes, high byte first
abbrev pub units : List ℕ → List ℕ
units [] = []
units (b ∷ []) = []
units (high ∷ low ∷ bytes) = (high * 256 + low) ∷ units bytes

-- RFC 2781, 2.1: two units "W1 = 110110yyyyyyyyyy, W2 = 110111xxxxxxxxxx" are one character,
abbrev pub pair? : ℕ → ℕ → Bool
pair? w1 w2 = cond (eqb (w1 / 1024) 0x36) (eqb (w2 / 1024) 0x37) false

-- "U' = yyyyyyyyyyxxxxxxxxxx" over 0x10000
abbrev pub joined : ℕ → ℕ → ℕ
joined w1 w2 = 0x10000 + w1 % 1024 * 1024 + w2 % 1024

-- any other unit is its own character; a surrogate, 11011 and eleven bits, is shown as U+FFFD
abbrev pub alone : ℕ → ℕ
alone w = cond (eqb (w / 2048) 0x1B) 0xFFFD w

-- the characters of units
abbrev pub characters : List ℕ → List ℕ
characters [] = []
characters (w ∷ []) = alone w ∷ []
characters (w1 ∷ w2 ∷ us) = cond (pair? w1 w2) (joined w1 w2 ∷ characters us) (alone w1 ∷ characters (w2 ∷ us))

-- ---- bytes

-- 10xxxxxx, with the low six bits of a number
abbrev pub following : ℕ → ℕ
following x = 0x80 + x % 64

-- RFC 3629, 3: the rows of its table, 0xxxxxxx, 110xxxxx, 1110xxxx and 11110xxx with the bytes that follow
abbrev pub utf8 : ℕ → List ℕ
utf8 c =
    cond (ltb c 0x80) (c ∷ [])
    (cond (ltb c 0x800) ((0xC0 + c / 64) ∷ following c ∷ [])
    (cond (ltb c 0x10000) ((0xE0 + c / 4096) ∷ following (c / 64) ∷ following c ∷ [])
    ((0xF0 + c / 262144) ∷ following (c / 4096) ∷ following (c / 64) ∷ following c ∷ [])))

-- the bytes that show a text
abbrev pub shown : List ℕ → List ℕ
shown bytes = flat_map utf8 (characters (units bytes))
