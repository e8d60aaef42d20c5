use Rattle.lists.proofs.Kit.{sym, ◌∙◌, arith}
use Rattle.export_write.specs.LineSettings.{line_slot_setting}
use Rattle.export_write.proofs.LineWriting.{delete_wrote, slot_wrote}
use Rattle.export_write.proofs.StartLaws.{setting_writes}
use Rattle.export_write.proofs.line_slots.write_line_slot.Goals as goal

pub returns-then-is_zeros : goal.returns-then-is_zeros
returns-then-is_zeros c =
    let a = c.args in
    let k = c.is_zeros in
    let w = c.write_bytes-end in
    let z = c.start_setting in
    setting_writes _ (line_slot_setting a.index) _ a.at 49 w.result z.result a.buffer.now w.new.buffer z.new.buffer z.ensures (omega arith) (omega arith)
    (delete_wrote a.index c.requires.2 a.slot.now a.at w.result a.buffer.now w.new.buffer (sym k.ensures ∙ c.if-is_zeros.true) w.ensures)

pub returns : goal.returns
returns c =
    let a = c.args in
    let k = c.is_zeros in
    let w = c.write_fields-end in
    let z = c.start_setting-2 in
    setting_writes _ (line_slot_setting a.index) _ a.at 49 w.result z.result a.buffer.now w.new.buffer z.new.buffer z.ensures (omega (arith, w.ensures.from)) (omega (arith, w.ensures.most))
    (slot_wrote a.index c.requires.2 a.slot.now a.at w.result a.buffer.now w.new.buffer (sym k.ensures ∙ c.if-is_zeros.false) w.ensures)
