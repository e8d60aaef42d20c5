-- Contracts' words: which slots are out of range. No promise cites these.
use Rattle.std.specs.Prelude.{ℕ, Bool, true, false, ◌≢◌}
use Rattle.writing.specs.declared.Operation.{Operation}
use Rattle.writing.specs.Ranges.{InAddress, InSlot}

-- whether a slot's operation, attribute or address is out of range
abbrev pub SlotRefused : Operation → ℕ → ℕ → Bool → Type 0
SlotRefused o attribute a true = InSlot o ((attribute ≢ 0) × InAddress a) → ⊥
SlotRefused o attribute a false = InSlot o ((attribute ≢ 0) × InAddress a)
