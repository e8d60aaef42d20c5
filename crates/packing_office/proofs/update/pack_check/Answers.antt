use Rattle.lists.proofs.Kit.{rules}
use Rattle.updating.specs.declared.answers.Check.TheVariants.{Yes, No, FirstNotAStore, SecondNotAStore}
use Rattle.packing_office.proofs.UpdateBits.{check_case}
use Rattle.packing_office.proofs.update.pack_check.Goals as goal

pub returns-in-Yes : goal.returns-in-Yes
returns-in-Yes c = check_case _ Yes c.in-Yes.is

pub returns-in-No : goal.returns-in-No
returns-in-No c = check_case _ No c.in-No.is

pub returns-in-FirstNotAStore : goal.returns-in-FirstNotAStore
returns-in-FirstNotAStore c = check_case _ FirstNotAStore c.in-FirstNotAStore.is

pub returns-in-SecondNotAStore : goal.returns-in-SecondNotAStore
returns-in-SecondNotAStore c = check_case _ SecondNotAStore c.in-SecondNotAStore.is
