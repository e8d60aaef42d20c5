use Rattle.lists.proofs.Kit.{◌≤◌}
use Rattle.joining.proofs.CheckLaws.{Along}
use Rattle.joining.proofs.checks.check_settings.Given as goal

abbrev pub invariant-loop-taken : goal.invariant-loop-taken
invariant-loop-taken l = (l.taken ≤ l.count) × Along l.m l.at l.head l.p l.taken l.last
