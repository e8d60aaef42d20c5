use Rattle.plain_weigh.proofs.WeighingLaws.{next_weighed}
use Rattle.plain_weigh.proofs.weighing.weigh_next.Goals as goal

pub returns : goal.returns
returns c =
    let a = c.args in
    next_weighed _ _ c.args.before a.deed a.weight c.known_for-known.result c.weigh.result c.known_for-known.ensures c.weigh.ensures
