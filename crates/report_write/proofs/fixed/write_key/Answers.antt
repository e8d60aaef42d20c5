use Rattle.lists.proofs.Kit.{arith}
use Rattle.report_write.proofs.FixedItems.{key_writes}
use Rattle.report_write.proofs.fixed.write_key.Goals as goal

pub returns : goal.returns
returns c =
    let a = c.args in
    let v = c.put_bytes in
    key_writes a.slot.now a.buffer.now v.new.buffer v.result (v.ensures (omega arith))
