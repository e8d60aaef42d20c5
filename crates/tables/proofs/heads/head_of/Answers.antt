use Rattle.lists.proofs.Kit.{refl, rules}
use Rattle.tables.proofs.HeadLaws.{address_cut}
use Rattle.tables.proofs.heads.head_of.Goals as goal

pub returns : goal.returns
returns c = (refl, λ h. address_cut c.args.flags c.args.address h)
