use Rattle.lists.proofs.Kit.{rules}
use Rattle.export.proofs.RequestLaws.{handheld_exportable}
use Rattle.updating.proofs.handheld.propose.Goals as goal

pub returns : goal.returns
returns c = c.propose_in.ensures handheld_exportable (search rules) (search rules) (search rules)
