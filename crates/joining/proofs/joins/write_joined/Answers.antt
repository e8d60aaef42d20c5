use Rattle.lists.proofs.Kit.{arith}
use Rattle.joining.proofs.JoinLaws.{all_written}
use Rattle.joining.proofs.joins.write_joined.Goals as goal

pub returns : goal.returns
returns c = let a = c.args in
    let p = c.put_bytes-middle in
    let q = c.put_bytes-end in
    let w = c.put_bytes in
    λ small. all_written a.head c.coding_byte-low.result p.result q.result w.result a.first.now a.second.now a.buffer.now p.new.buffer q.new.buffer w.new.buffer c.coding_byte-low.ensures (omega arith) (omega arith) small p.ensures q.ensures w.ensures
