use Rattle.lists.proofs.Kit.{◌≡◌, ◌&&◌}
use Rattle.store_check.specs.Checks.{units?}
use Rattle.store_check.proofs.checks_entries.units_shown.Given as goal

abbrev pub invariant-loop-unit : goal.invariant-loop-unit
invariant-loop-unit l = (l.unit-iterator.size ≡ 2) × (units? l.s ≡ (l.all && units? l.unit-iterator.rest.now))
