use Rattle.lists.proofs.Kit.{arith}
use Rattle.export_write.proofs.fields.put_number.Goals as goal

pub returns-then-digits-ne-DIGITS : goal.returns-then-digits-ne-DIGITS
returns-then-digits-ne-DIGITS c = λ h. absurd (omega (arith, h))

pub returns-then-buffer-at : goal.returns-then-buffer-at
returns-then-buffer-at c = λ h. absurd (omega (arith, h))

pub returns-then-buffer-at-lt-NUMBER : goal.returns-then-buffer-at-lt-NUMBER
returns-then-buffer-at-lt-NUMBER c = λ h. absurd (omega (arith, h))
