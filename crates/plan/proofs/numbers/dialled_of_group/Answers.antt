use Rattle.lists.proofs.Kit.{refl}
use Rattle.plan.specs.Numbers.{GroupShort}
use Rattle.plan.specs.Answers.{none}
use Rattle.plan.proofs.NumberLaws.{groups, no_member, addressed}
use Rattle.plan.proofs.numbers.dialled_of_group.Goals as goal

pub returns-in_err-fleet : goal.returns-in_err-fleet
returns-in_err-fleet c = rw c.from_residual.ensures (none (no_member GroupShort groups _ c.in_err-fleet.ensures) refl)

pub returns : goal.returns
returns c = addressed GroupShort groups _ _ _ _ c.in_ok-fleet.ensures c.area_dialled.ensures
