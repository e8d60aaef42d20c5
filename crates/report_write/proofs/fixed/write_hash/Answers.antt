use Rattle.lists.proofs.Kit.{arith}
use Rattle.report_write.proofs.FixedItems.{no_hash_writes, hash_writes}
use Rattle.report_write.proofs.fixed.write_hash.Goals as goal

pub returns-then-slot-eq0 : goal.returns-then-slot-eq0
returns-then-slot-eq0 c =
    let a = c.args in
    let v = c.put_bytes in
    no_hash_writes a.slot.now a.buffer.now v.new.buffer v.result c.if-slot-eq0.true (v.ensures (omega arith))

pub returns : goal.returns
returns c =
    let a = c.args in
    let p = c.requires in
    let v = c.put_bytes-code in
    let e = c.value_end-end in
    let w = c.put_bytes-2 in
    hash_writes a.slot.now a.buffer.now v.new.buffer w.new.buffer e.result v.result w.result p.1 p.0 c.if-slot-eq0.false e.ensures (v.ensures (omega arith)) w.ensures
