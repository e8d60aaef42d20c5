use Rattle.export_write.proofs.NumberWriting.{digit_past, digit_none, digit_some}
use Rattle.lists.proofs.Kit.{arith}
use Rattle.export_write.proofs.texts.digit.Goals as goal

pub returns-then-digits-i : goal.returns-then-digits-i
returns-then-digits-i c = let a = c.args in digit_past a.digits.now a.i c.requires (omega arith)

pub returns-then-digits-i-eq0 : goal.returns-then-digits-i-eq0
returns-then-digits-i-eq0 c = let a = c.args in digit_none a.digits.now a.i c.requires (omega arith) (omega arith)

pub returns : goal.returns
returns c = let a = c.args in digit_some a.digits.now a.i c.requires (omega arith) (λ e. omega arith)
