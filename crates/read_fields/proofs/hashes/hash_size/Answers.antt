use Rattle.lists.proofs.Kit.{arith}
use Rattle.read_fields.proofs.HashLaws.{size_0, size_4, size_10}
use Rattle.read_fields.proofs.hashes.hash_size.Goals as goal

-- `read_fields::hashes::hash_size` meets its contract. Assumes nothing.
pub returns-in-1 : goal.returns-in-1
returns-in-1 c = size_4 (omega arith)

pub returns-in-2 : goal.returns-in-2
returns-in-2 c = size_10 (omega arith)

pub returns-in_default : goal.returns-in_default
returns-in_default c = size_0 (λ e. omega arith) (λ e. omega arith)
