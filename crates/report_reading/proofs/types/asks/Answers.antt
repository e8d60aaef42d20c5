use Rattle.lists.proofs.Kit.{arith}
use Rattle.report_reading.proofs.TypeLaws.{asks_some, asks_hash, asks_none}
use Rattle.report_reading.proofs.types.asks.Goals as goal

pub returns-in-255 : goal.returns-in-255
returns-in-255 c = asks_hash c.in-255.is

pub returns-in-200-to-208 : goal.returns-in-200-to-208
returns-in-200-to-208 c = asks_some (omega arith) (omega arith)

pub returns-in_default : goal.returns-in_default
returns-in_default c = asks_none (λ l h. omega arith) (λ u. omega arith)

pub returns-in_default-2 : goal.returns-in_default-2
returns-in_default-2 c = asks_none (λ l h. omega arith) (λ u. omega arith)
