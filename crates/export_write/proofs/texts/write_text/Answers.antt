use Rattle.lists.proofs.Kit.{mid_len, arith}
use Rattle.export_write.proofs.TextWriting.{text_wrote}
use Rattle.export_write.proofs.texts.write_text.Goals as goal

pub returns : goal.returns
returns c =
    let a = c.args in
    let u = c.used-n in
    let v = c.write_bytes-end in
    let w = c.write_bytes in
    record {
      from = omega arith;
      most = omega (arith, u.ensures.within, mid_len 0 u.result a.slot.now u.ensures.within);
      wrote = text_wrote a.slot.now a.buffer.now v.new.buffer w.new.buffer a.at u.result v.result w.result u.ensures v.ensures w.ensures;
    }
