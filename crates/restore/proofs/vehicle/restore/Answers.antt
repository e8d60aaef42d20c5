use Rattle.lists.proofs.Kit.{rules}
use Rattle.export.proofs.RequestLaws.{vehicle_exportable}
use Rattle.restore.proofs.vehicle.restore.Goals as goal

pub returns : goal.returns
returns c = c.restore_in.ensures vehicle_exportable (search rules)
