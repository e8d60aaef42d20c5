use borrow.Author.Rules.{rules}
use Rattle.packed_calls.proofs.Sets.{vehicle_packable}
use Rattle.otap_vehicle.proofs.exports.otap_vehicle_export.Goals as goal

pub returns : goal.returns
returns c = c.packed_export.ensures vehicle_packable tt
