use Rattle.lists.proofs.Kit.{◌≡◌, length, drop, take, ◌++◌}
use Rattle.slots.proofs.slots.shift.Given as goal

abbrev pub invariant-loop-i : goal.invariant-loop-i
invariant-loop-i l = (l.s ≡ take l.i (drop l.w l.initial.s) ++ drop l.i l.initial.s) × (length l.s ≡ length l.initial.s)
