use Rattle.lists.proofs.Kit.{refl}
use Rattle.working.proofs.WholeLaws.{lines_end}
use Rattle.working.proofs.part_saving.used_size.Goals as goal

pub returns : goal.returns
returns c = (lines_end c.args.limits c.run_of.result c.slots_end.result _ c.run_of.ensures.0 c.slots_end.ensures refl).0
