use Rattle.export_write.specs.LineSettings.{line_add}
use Rattle.export_write.proofs.LineWriting.{line_wrote}
use Rattle.export_write.proofs.StartLaws.{setting_writes}
use Rattle.lists.proofs.Kit.{arith}
use Rattle.export_write.proofs.lines.write_line.Goals as goal

pub returns : goal.returns
returns c =
    let a = c.args in
    let w = c.write_fields-end in
    let z = c.start_setting in
    setting_writes _ line_add _ a.at 49 w.result z.result a.buffer.now w.new.buffer z.new.buffer z.ensures (omega (arith, w.ensures.from)) (omega (arith, w.ensures.most))
    (line_wrote a.slot.now a.at w.result a.buffer.now w.new.buffer w.ensures)
