use Rattle.lists.proofs.Kit.{arith}
use Rattle.settings.proofs.TypeTableLaws.{no_code}
use Rattle.settings.proofs.type_table.operation_of.Goals as goal

pub returns-in_default : goal.returns-in_default
returns-in_default c = λ o e l. no_code (λ u. omega arith) (λ u. omega arith) (λ u. omega arith) o e
