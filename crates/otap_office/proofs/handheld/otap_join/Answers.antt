use Rattle.lists.proofs.Kit.{rules, arith}
use Rattle.otap_office.proofs.handheld.otap_join.Goals as goal

pub returns : goal.returns
returns c = c.packed_join.ensures (omega arith)
