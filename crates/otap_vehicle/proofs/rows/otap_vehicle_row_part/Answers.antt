use borrow.Author.Rules.{rules}
use Rattle.packed_calls.proofs.Sets.{vehicle_packable}
use Rattle.otap_vehicle.proofs.rows.otap_vehicle_row_part.Goals as goal

pub returns : goal.returns
returns c = c.packed_part.ensures vehicle_packable
