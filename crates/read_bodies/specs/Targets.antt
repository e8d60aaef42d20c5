-- A contract's words: where the key calls. No promise cites this.
use Rattle.std.specs.Prelude.{ℕ, ◌≡◌, Bool, false, [], ◌∷◌}
use Rattle.writing.specs.declared.KeyTarget.{KeyTarget}
use Rattle.writing.specs.Fields.{val}
use Rattle.writing.specs.Ranges.{InAddress, InTarget}
use Rattle.writing.specs.Writing.{current, to_group, key_address}

-- an address of the kind that the group bit says
abbrev pub TargetIs : Bool → ℕ → KeyTarget → Type 0
TargetIs g a t = (current t ≡ false) × (to_group t ≡ g) × (key_address t ≡ val 24 a ∷ []) × (InAddress a → InTarget t)
