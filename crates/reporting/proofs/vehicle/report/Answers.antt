use Rattle.reporting.proofs.ReportLaws.{vehicle_reportable}
use Rattle.reporting.proofs.vehicle.report.Goals as goal

pub returns : goal.returns
returns c = c.report_in.ensures vehicle_reportable tt
