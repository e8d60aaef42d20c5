use borrow.Author.Rules.{rules}
use Rattle.reporting.proofs.ReportLaws.{handheld_reportable}
use Rattle.otap_handheld.proofs.queries.otap_report.Goals as goal

pub returns : goal.returns
returns c = c.packed_report.ensures handheld_reportable (search rules)
