use Rattle.lists.proofs.Kit.{◌≤◌}
use Rattle.reporting.proofs.PlanTurns.{WalkedTo}
use Rattle.reporting.proofs.planning.plan_table.Given as goal

abbrev pub invariant-loop-place : goal.invariant-loop-place
invariant-loop-place l = (l.place ≤ l.places) × (l.rank ≤ l.place) × WalkedTo l.limits l.asked l.work l.ask l.room l.j l.initial.w l.place l.rank l.w
