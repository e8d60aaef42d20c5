use Rattle.reporting.proofs.AskLaws.{asks_nothing}
use Rattle.lists.proofs.Kit.{arith}
use Rattle.reporting.proofs.asking.asked_by.Goals as goal

pub returns-in_default : goal.returns-in_default
returns-in_default c =
    asks_nothing c.args.byte (λ u. omega arith) (λ u. omega arith) (λ u. omega arith) (λ u. omega arith) (λ u. omega arith) (λ u. omega arith) (λ u. omega arith) (λ u. omega arith) (λ u. omega arith) (λ u. omega arith)
