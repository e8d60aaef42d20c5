use Rattle.lists.proofs.Kit.{refl}
use Rattle.joining.proofs.CheckLaws.{opens_else, not_opened}
use Rattle.joining.proofs.checks.is_other.Goals as goal

pub returns-in-Ok : goal.returns-in-Ok
returns-in-Ok c =
    let a = c.args in
    opens_else a.most a.m.now c.in-Ok.opened _ c.in-Ok.ensures refl

pub returns-in-Err : goal.returns-in-Err
returns-in-Err c =
    let a = c.args in
    not_opened a.most a.m.now _ c.in-Err.ensures
