-- A contract's words: how long the texts of a list are at least. No promise cites this.
use Rattle.std.specs.Prelude.{ℕ, ◌≡◌}
use Rattle.writing.specs.declared.Operation.{Operation}
use Rattle.writing.specs.declared.Operation.TheVariants.{Add, Delete, Replace}

-- how many units a quick text has at least
abbrev pub LeastIs : Operation → ℕ → Type 0
LeastIs Add n = n ≡ 1
LeastIs Delete n = n ≡ 0
LeastIs Replace n = n ≡ 1
