use Rattle.export_write.proofs.StartLaws.{setting_started}
use Rattle.lists.proofs.Kit.{arith}
use Rattle.export_write.proofs.writers.start_setting.Goals as goal

pub returns : goal.returns
returns c =
    let a = c.args in
    let w = c.write_bytes in
    setting_started a.kind a.at a.end w.result a.buffer.now w.new.buffer (omega arith) (omega arith) w.ensures
