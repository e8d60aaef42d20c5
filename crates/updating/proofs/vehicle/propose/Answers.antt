use Rattle.lists.proofs.Kit.{rules}
use Rattle.export.proofs.RequestLaws.{vehicle_exportable}
use Rattle.updating.proofs.vehicle.propose.Goals as goal

pub returns : goal.returns
returns c = c.propose_in.ensures vehicle_exportable (search rules) (search rules) tt
