use Rattle.lists.proofs.Kit.{◌≡◌}
use Rattle.store_check.proofs.AreaLaws.{Behind}
use Rattle.store_check.proofs.checks_shared.area_shown.Given as goal

abbrev pub invariant-loop-block : goal.invariant-loop-block
invariant-loop-block l = (l.block-iterator.size ≡ 32) × Behind l.s l.block-iterator.rest.now
