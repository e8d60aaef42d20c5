use Rattle.lists.proofs.Kit.{arith}
use Rattle.report_write.proofs.heads.put_bits.Goals as goal

pub returns : goal.returns
returns c = c.put_bytes.ensures (omega arith)
