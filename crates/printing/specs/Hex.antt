-- Numbers in hexadecimal digits.
use Rattle.std.specs.Prelude.{ℕ, ◌/◌, ◌%◌, List, [], ◌∷◌, ◌++◌, slice_index}
use Rattle.std.specs.List.{flat_map}

-- the digits `0123456789ABCDEF` as bytes
abbrev pub hex_digits : List ℕ
hex_digits = 48 ∷ 49 ∷ 50 ∷ 51 ∷ 52 ∷ 53 ∷ 54 ∷ 55 ∷ 56 ∷ 57 ∷ 65 ∷ 66 ∷ 67 ∷ 68 ∷ 69 ∷ 70 ∷ []

-- the two digits of a byte
abbrev pub hex_pair : ℕ → List ℕ
hex_pair b = slice_index hex_digits (b / 16) ∷ slice_index hex_digits (b % 16) ∷ []

-- the six digits of 24 bits
abbrev pub six_digits : ℕ → List ℕ
six_digits a = hex_pair (a / 65536 % 256) ++ hex_pair (a / 256 % 256) ++ hex_pair (a % 256)

-- a space and two digits for each byte
abbrev pub spaced : List ℕ → List ℕ
spaced bytes = flat_map (λ b. 32 ∷ hex_pair b) bytes
