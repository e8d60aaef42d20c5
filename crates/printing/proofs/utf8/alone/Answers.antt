use native.Mathlib.Omega.{arith}
use Rattle.printing.proofs.TextLaws.{alone_surrogate, alone_plain}
use Rattle.printing.proofs.utf8.alone.Goals as goal

-- `printing::utf8::alone` meets its contract. Assumes nothing.
pub returns-then-unit-eq27 : goal.returns-then-unit-eq27
returns-then-unit-eq27 c = (alone_surrogate c.args.unit (omega arith), omega arith)

pub returns-else-unit-eq27 : goal.returns-else-unit-eq27
returns-else-unit-eq27 c = (alone_plain c.args.unit (λ h. omega arith), omega arith)
