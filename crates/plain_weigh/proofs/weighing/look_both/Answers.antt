use Rattle.lists.proofs.Kit.{refl}
use Rattle.plain_look.proofs.LookLaws.{unknown_is}
use Rattle.plain_weigh.proofs.WeighingLaws.{both_looked}
use Rattle.plain_weigh.proofs.weighing.look_both.Goals as goal

pub returns : goal.returns
returns c =
    let a = c.args in
    both_looked _ _ c.args.before a.kind a.key c.at_settings-start.result _ c.look-known.result c.look.result c.at_settings-start.ensures (unknown_is _ _ refl refl) c.look-known.ensures c.look.ensures
