use Rattle.lists.proofs.Kit.{mid_len, arith}
use Rattle.export_write.proofs.LineWriting.{fields_wrote}
use Rattle.tables.specs.Layout.{line_width}
use Rattle.export_write.proofs.lines.write_fields.Goals as goal

pub returns : goal.returns
returns c =
    let a = c.args in
    let p = c.requires in
    let b = c.line_byte in
    let v = c.write_bytes-number in
    let n = c.write_number-text in
    let w = c.write_text in
    let t = mid_len 20 line_width a.slot.now (omega (arith, p.0)) in
    record {
      from = omega arith;
      most = omega (arith, t);
      wrote = fields_wrote a.slot.now a.at v.result n.result w.result b.result a.second a.buffer.now v.new.buffer n.new.buffer w.new.buffer b.ensures v.ensures n.ensures w.ensures;
    }
