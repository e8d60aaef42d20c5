use Rattle.lists.proofs.Kit.{refl}
use Rattle.plan.specs.Numbers.{IndividualShort}
use Rattle.plan.specs.Answers.{has, none}
use Rattle.plan.proofs.NumberLaws.{individuals, no_address, no_area, numbered}
use Rattle.plan.proofs.numbers.individual_of_dialled.Goals as goal

pub returns-in_err-short : goal.returns-in_err-short
returns-in_err-short c = rw c.from_residual.ensures (none (no_address IndividualShort individuals _ c.in_err-short.ensures) refl)

pub returns-in_err-address : goal.returns-in_err-address
returns-in_err-address c = rw c.from_residual-in_err-address.ensures (none (no_area IndividualShort individuals _ c.in_err-address.ensures) refl)

pub returns : goal.returns
returns c = has _ (numbered IndividualShort individuals _ _ _ c.in_ok-short.ensures c.in_ok-address.ensures) refl
