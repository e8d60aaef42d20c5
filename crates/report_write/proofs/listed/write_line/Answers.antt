use Rattle.lists.proofs.Kit.{arith}
use Rattle.report_write.proofs.ListedItems.{line_writes}
use Rattle.report_write.proofs.listed.write_line.Goals as goal

pub returns : goal.returns
returns c =
    let a = c.args in
    let p = c.requires in
    let v = c.put_bytes-number in
    let n = c.put_number-text in
    let w = c.put_text in
    line_writes a.slot.now a.buffer.now v.new.buffer n.new.buffer w.new.buffer a.rank v.result n.result w.result p.0 p.1 v.ensures n.ensures w.ensures (omega arith)
