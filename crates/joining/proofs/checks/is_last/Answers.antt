use Rattle.lists.proofs.Kit.{subst⁻¹, true}
use Rattle.settings.specs.declared.settings.Setting.{Setting as Read}
use Rattle.joining.specs.Checking.{IsLast}
use Rattle.joining.proofs.CheckLaws.{last_is, last_none}
use borrow.Enum.Refused.{opened as is_one_of}
use Rattle.joining.proofs.checks.is_last.Goals as goal

pub returns-in-Last : goal.returns-in-Last
returns-in-Last c = subst⁻¹ (λ (r : Read). IsLast r true) c.in-Last.is (last_is c.in-Last.field-0 c.in-Last.field-1)

pub returns-in_default : goal.returns-in_default
returns-in_default c = last_none c.args.setting (is_one_of c.in_default.in_default-own.keys2)
