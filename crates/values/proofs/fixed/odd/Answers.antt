use Rattle.values.proofs.FixedLaws.{lowest_is}
use Rattle.values.proofs.fixed.odd.Goals as goal

pub returns : goal.returns
returns c = lowest_is c.args.n
