use Rattle.lists.proofs.Kit.{rules}
use Rattle.updating.proofs.vehicle.check.Goals as goal

pub returns : goal.returns
returns c = c.check_in.ensures (search rules) (search rules)
