use Rattle.lists.proofs.Kit.{arith}
use Rattle.plan.specs.Numbers.{of_100}
use Rattle.plan.proofs.NumberLaws.{group_to}
use Rattle.plan.proofs.numbers.group_member.Goals as goal

pub returns-in-1-to-7000 : goal.returns-in-1-to-7000
returns-in-1-to-7000 c = of_100 (omega arith) (omega arith) (omega arith) (omega arith) (omega arith)

pub returns-in_default : goal.returns-in_default
returns-in_default c = λ f m p. let (a, b) = group_to p in omega arith

pub returns-in_default-2 : goal.returns-in_default-2
returns-in_default-2 c = λ f m p. let (a, b) = group_to p in omega arith
