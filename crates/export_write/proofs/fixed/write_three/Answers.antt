use Rattle.export_write.proofs.FixedWriting.{bits_wrote}
use Rattle.export_write.proofs.fixed.write_three.Goals as goal

pub returns : goal.returns
returns c =
    let a = c.args in
    let t = c.three-bytes in
    let w = c.write_bytes-end in
    let z = c.start_setting in
    bits_wrote a.kind a.bits a.at w.result z.result t.result a.buffer.now w.new.buffer z.new.buffer t.ensures.0 t.ensures.1 w.ensures z.ensures
