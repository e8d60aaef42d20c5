use Rattle.values.proofs.FixedLaws.{home_read}
use Rattle.values.proofs.fixed.home_of.Goals as goal

pub returns : goal.returns
returns c =
    home_read c.args.s.now c.pair_of.result c.pair_of-2.result c.pair_of.ensures c.pair_of-2.ensures
