use Rattle.lists.proofs.Kit.{arith, refl}
use Rattle.export.proofs.exporting.span_of.Goals as goal

pub returns-in-Lines : goal.returns-in-Lines
returns-in-Lines c = rw c.in-Lines.is (refl, refl, omega arith, omega arith)
