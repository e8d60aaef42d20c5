use Rattle.lists.proofs.Kit.{arith}
use Rattle.screen.proofs.numbers.write_decimal.Goals as goal

-- `screen::numbers::write_decimal` meets its contract. Assumes nothing.
pub returns-then-scratch-n : goal.returns-then-scratch-n
returns-then-scratch-n c = λ h. absurd (omega arith)
