use Rattle.orders.proofs.Steps.{Out}
use Rattle.orders.proofs.entries.leave_out.Given as goal

abbrev pub invariant-loop-i : goal.invariant-loop-i
invariant-loop-i l = Out l.v l.initial.d l.d l.i l.j
