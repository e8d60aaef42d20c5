use Rattle.lists.proofs.Kit.{rules}
use Rattle.export.proofs.RequestLaws.{handheld_exportable}
use Rattle.export.proofs.handheld.export.Goals as goal

pub returns : goal.returns
returns c = c.export_in.ensures.1 handheld_exportable (search rules)
