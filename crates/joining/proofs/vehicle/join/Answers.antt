use Rattle.joining.proofs.JoinLaws.{vehicle_can}
use Rattle.joining.proofs.vehicle.join.Goals as goal

pub returns : goal.returns
returns c = c.join_in.ensures vehicle_can
