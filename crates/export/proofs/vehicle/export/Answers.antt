use Rattle.export.proofs.RequestLaws.{vehicle_exportable}
use Rattle.export.proofs.vehicle.export.Goals as goal

pub returns : goal.returns
returns c = c.export_in.ensures.1 vehicle_exportable tt
