use Rattle.lists.proofs.Kit.{rules}
use Rattle.export.proofs.RequestLaws.{handheld_exportable}
use Rattle.restore.proofs.handheld.restore.Goals as goal

pub returns : goal.returns
returns c = c.restore_in.ensures handheld_exportable (search rules)
