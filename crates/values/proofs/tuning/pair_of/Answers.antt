use Rattle.values.proofs.TuningLaws.{pair_is}
use Rattle.values.proofs.tuning.pair_of.Goals as goal

pub returns : goal.returns
returns c =
    pair_is c.args.s.now c.wide.result c.wide-2.result c.wide.ensures.0 c.wide-2.ensures.0
