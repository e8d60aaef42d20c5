use Rattle.lists.proofs.Kit.{rules}
use Rattle.reporting.proofs.ReportLaws.{handheld_reportable}
use Rattle.reporting.proofs.handheld.report.Goals as goal

pub returns : goal.returns
returns c = c.report_in.ensures handheld_reportable (search rules)
