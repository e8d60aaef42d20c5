use native.Mathlib.Omega.{arith}
use Rattle.printing.proofs.TextLaws.{pair_second, no_pair}
use Rattle.printing.proofs.utf8.is_pair.Goals as goal

-- `printing::utf8::is_pair` meets its contract. Assumes nothing.
pub returns-then-high-eq54 : goal.returns-then-high-eq54
returns-then-high-eq54 c = pair_second c.args.high c.args.low (omega arith)

pub returns-else-high-eq54 : goal.returns-else-high-eq54
returns-else-high-eq54 c = no_pair c.args.high c.args.low (λ h. omega arith)
