use Rattle.lists.proofs.Kit.{◌≤◌, length}
use Rattle.reporting.proofs.PlanTurns.{Planning}
use Rattle.reporting.proofs.planning.plan_report.Given as goal

abbrev pub invariant-loop-ask : goal.invariant-loop-ask
invariant-loop-ask l = (l.ask ≤ length l.types) × Planning l.limits l.types l.work l.room l.j l.ask l.w
