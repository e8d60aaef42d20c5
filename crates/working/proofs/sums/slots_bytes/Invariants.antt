use Rattle.working.proofs.CountLaws.{Counting}
use Rattle.working.proofs.sums.slots_bytes.Given as goal

abbrev pub invariant-loop-i : goal.invariant-loop-i
invariant-loop-i l = Counting l.slots l.run.own l.run.room l.run.many l.sum l.at l.i
