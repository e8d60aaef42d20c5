use Rattle.lists.proofs.Kit.{arith}
use Rattle.plan.specs.Numbers.{of_100}
use Rattle.plan.proofs.numbers.group_short.Goals as goal

pub returns-in-20-to-89-900-to-999 : goal.returns-in-20-to-89-900-to-999
returns-in-20-to-89-900-to-999 c = of_100 (omega arith) (omega arith) (omega arith) (omega arith) (omega arith)
