use Rattle.values.proofs.FixedLaws.{system_read}
use Rattle.values.proofs.fixed.system_of.Goals as goal

pub returns : goal.returns
returns c =
    system_read c.args.s.now c.pair_of.result c.odd.result c.pair_of.ensures c.odd.ensures
