use Rattle.lists.proofs.Kit.{◌≡◌, length, take}
use Rattle.slots.proofs.Widening.{widened}
use Rattle.slots.proofs.bytes.widen_padded.Given as goal

abbrev pub invariant-loop-i : goal.invariant-loop-i
invariant-loop-i l = (l.dst ≡ widened (length l.initial.dst) (take l.i l.src)) × (length l.dst ≡ length l.initial.dst)
