use Rattle.lists.proofs.Kit.{arith}
use Rattle.export_write.proofs.fields.put_bytes.Goals as goal

pub returns-then-buffer-at : goal.returns-then-buffer-at
returns-then-buffer-at c = λ h. absurd (omega (arith, h))

pub returns-then-buffer-at-2 : goal.returns-then-buffer-at-2
returns-then-buffer-at-2 c = λ h. absurd (omega (arith, h))
