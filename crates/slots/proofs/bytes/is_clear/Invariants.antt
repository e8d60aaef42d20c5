use Rattle.lists.proofs.Kit.{◌≡◌, ◌&&◌, drop}
use Rattle.slots.specs.Slots.{zeros?}
use Rattle.slots.proofs.bytes.is_clear.Given as goal

abbrev pub invariant-loop-i : goal.invariant-loop-i
invariant-loop-i l = zeros? l.s ≡ (l.clear && zeros? (drop l.i l.s))
