use borrow.Author.Rules.{rules}
use Rattle.reporting.proofs.ReportLaws.{vehicle_reportable}
use Rattle.otap_vehicle.proofs.queries.otap_vehicle_report.Goals as goal

pub returns : goal.returns
returns c = c.packed_report.ensures vehicle_reportable tt
