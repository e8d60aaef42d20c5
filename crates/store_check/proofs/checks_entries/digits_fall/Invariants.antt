use Rattle.lists.proofs.Kit.{◌≡◌, drop, ◌&&◌}
use Rattle.store_check.specs.Checks.{digits_fall?}
use Rattle.store_check.proofs.checks_entries.digits_fall.Given as goal

abbrev pub invariant-loop-i : goal.invariant-loop-i
invariant-loop-i l = digits_fall? l.s ≡ (l.all && digits_fall? (drop l.i l.s))
