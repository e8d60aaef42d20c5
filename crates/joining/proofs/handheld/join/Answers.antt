use Rattle.joining.proofs.JoinLaws.{handheld_can}
use Rattle.joining.proofs.handheld.join.Goals as goal

pub returns : goal.returns
returns c = c.join_in.ensures handheld_can
