use Rattle.lists.proofs.Kit.{arith}
use Rattle.plan.specs.Numbers.{of_700, of_350}
use Rattle.plan.proofs.NumberLaws.{individual_to}
use Rattle.plan.proofs.numbers.individual_member.Goals as goal

pub returns-in-1-to-15400 : goal.returns-in-1-to-15400
returns-in-1-to-15400 c = of_700 (omega arith) (omega arith) (omega arith) (omega arith) (omega arith)

pub returns-in-15401-to-32200 : goal.returns-in-15401-to-32200
returns-in-15401-to-32200 c = of_350 (omega arith) (omega arith) (omega arith) (omega arith) (omega arith)

pub returns-in_default : goal.returns-in_default
returns-in_default c = λ f m p. let (a, b) = individual_to p in omega arith

pub returns-in_default-2 : goal.returns-in_default-2
returns-in_default-2 c = λ f m p. let (a, b) = individual_to p in omega arith
