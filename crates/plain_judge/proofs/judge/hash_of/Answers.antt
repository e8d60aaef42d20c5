use Rattle.lists.proofs.Kit.{subst⁻¹}
use Rattle.settings.specs.declared.settings.Setting.{Setting as SettingRead}
use Rattle.plain_judge.specs.Judging.{HashOf}
use Rattle.plain_judge.proofs.JudgeLaws.{hash_last, hash_none}
use borrow.Enum.Refused.{opened as is_one_of}
use Rattle.plain_judge.proofs.judge.hash_of.Goals as goal

pub returns-in-Last : goal.returns-in-Last
returns-in-Last c =
    subst⁻¹ (λ (x : SettingRead). HashOf x c.in-Last.place) c.in-Last.is (hash_last c.in-Last.field-0 c.in-Last.place)

pub returns-in_default : goal.returns-in_default
returns-in_default c =
    hash_none c.args.setting (is_one_of c.in_default.in_default-own.keys2)
