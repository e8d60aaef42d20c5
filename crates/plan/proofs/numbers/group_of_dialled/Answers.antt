use Rattle.lists.proofs.Kit.{refl}
use Rattle.plan.specs.Numbers.{GroupShort}
use Rattle.plan.specs.Answers.{has, none}
use Rattle.plan.proofs.NumberLaws.{groups, no_address, no_area, numbered}
use Rattle.plan.proofs.numbers.group_of_dialled.Goals as goal

pub returns-in_err-short : goal.returns-in_err-short
returns-in_err-short c = rw c.from_residual.ensures (none (no_address GroupShort groups _ c.in_err-short.ensures) refl)

pub returns-in_err-address : goal.returns-in_err-address
returns-in_err-address c = rw c.from_residual-in_err-address.ensures (none (no_area GroupShort groups _ c.in_err-address.ensures) refl)

pub returns : goal.returns
returns c = has _ (numbered GroupShort groups _ _ _ c.in_ok-short.ensures c.in_ok-address.ensures) refl
