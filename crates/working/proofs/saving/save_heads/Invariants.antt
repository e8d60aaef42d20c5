use Rattle.working.proofs.SaveLaws.{Heading}
use Rattle.working.proofs.saving.save_heads.Given as goal

abbrev pub invariant-loop-i : goal.invariant-loop-i
invariant-loop-i l = Heading l.heads l.slots l.run.own l.run.room l.run.many l.at l.to l.i
