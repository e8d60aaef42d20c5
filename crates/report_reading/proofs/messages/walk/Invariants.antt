use Rattle.lists.proofs.Kit.{◌-◌}
use Rattle.report_reading.proofs.WalkLaws.{Passed}
use Rattle.report_reading.proofs.messages.walk.Given as goal

abbrev pub invariant-loop-read : goal.invariant-loop-read
invariant-loop-read l = Passed l.m l.count l.last l.p (l.count - l.read)
