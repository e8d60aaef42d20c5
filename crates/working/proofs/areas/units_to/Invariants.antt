use Rattle.working.proofs.AreaLaws.{Counting}
use Rattle.working.proofs.areas.units_to.Given as goal

abbrev pub invariant-loop-i : goal.invariant-loop-i
invariant-loop-i l = Counting l.limits l.store l.k l.sum l.i
