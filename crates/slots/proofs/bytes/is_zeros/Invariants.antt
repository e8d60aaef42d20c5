use Rattle.lists.proofs.Kit.{◌≡◌, drop}
use Rattle.slots.specs.Slots.{zeros?}
use Rattle.slots.proofs.bytes.is_zeros.Given as goal

abbrev pub invariant-loop-i : goal.invariant-loop-i
invariant-loop-i l = zeros? l.s ≡ zeros? (drop l.i l.s)
