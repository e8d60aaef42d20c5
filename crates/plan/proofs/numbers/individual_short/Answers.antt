use Rattle.lists.proofs.Kit.{arith}
use Rattle.plan.specs.Numbers.{of_700, of_350}
use Rattle.plan.proofs.numbers.individual_short.Goals as goal

pub returns-in-20-to-41-200-to-899 : goal.returns-in-20-to-41-200-to-899
returns-in-20-to-41-200-to-899 c = of_700 (omega arith) (omega arith) (omega arith) (omega arith) (omega arith)

pub returns-in-42-to-89-200-to-549 : goal.returns-in-42-to-89-200-to-549
returns-in-42-to-89-200-to-549 c = of_350 (omega arith) (omega arith) (omega arith) (omega arith) (omega arith)
