-- A contract's words: what the head of a list or a slot says. No promise cites this.
use Rattle.std.specs.Prelude.{ℕ, ◌+◌, ◌-◌, ◌*◌, ◌/◌, ◌%◌, ◌^◌, ◌≤◌, ◌≡◌, List, length, drop, take, Option, Some, None}
use Rattle.writing.specs.declared.Operation.{Operation}
use Rattle.writing.specs.Writing.{op_code}
use Rattle.read_fields.specs.Places.{be}

-- so many bytes as one number with the operation in its two highest bits, or no operation up to this code stands there
abbrev pub HeadIs : List ℕ → ℕ → ℕ → ℕ → Option (ℕ × Operation) → Type 0
HeadIs m p size most (Some (n, o)) =
    (p + size ≤ length m) × (n ≡ be 0 (take size (drop p m))) × (op_code o ≡ n / 2 ^ (8 * size - 2) % 4) × (op_code o ≤ most)
HeadIs m p size most None =
    p + size ≤ length m → (o : Operation) → op_code o ≡ be 0 (take size (drop p m)) / 2 ^ (8 * size - 2) % 4 → op_code o ≤ most → ⊥
