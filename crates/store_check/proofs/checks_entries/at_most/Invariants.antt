use Rattle.lists.proofs.Kit.{◌≤◌, drop, ◌↔◌}
use Rattle.lists.specs.Every.{All}
use Rattle.store_check.proofs.checks_entries.at_most.Given as goal

abbrev pub invariant-loop-i : goal.invariant-loop-i
invariant-loop-i l = All (λ x. x ≤ l.most) l.s ↔ All (λ x. x ≤ l.most) (drop l.i l.s)
