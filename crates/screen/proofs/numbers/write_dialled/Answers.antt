use Rattle.lists.proofs.Kit.{arith}
use Rattle.screen.proofs.numbers.write_dialled.Goals as goal

-- `screen::numbers::write_dialled` meets its contract. Assumes nothing.
pub returns-then-scratch-lt36 : goal.returns-then-scratch-lt36
returns-then-scratch-lt36 c = λ h. absurd (omega arith)
