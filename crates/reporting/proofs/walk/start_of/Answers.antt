use Rattle.lists.proofs.Kit.{refl}
use Rattle.reporting.proofs.walk.start_of.Goals as goal

pub returns-in-Lines : goal.returns-in-Lines
returns-in-Lines c = rw c.in-Lines.is refl
