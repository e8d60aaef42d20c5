use Rattle.lists.proofs.Kit.{refl, tail-eq_of_cons-eq}
use Rattle.tables.proofs.HeadLaws.{address_cut}
use Rattle.export_write.proofs.writers.three.Goals as goal

pub returns : goal.returns
returns c = (refl, λ h. tail-eq_of_cons-eq (address_cut 0 c.args.bits h))
