use Rattle.writing.specs.Settings.{key}
use Rattle.export_write.proofs.FixedWriting.{key_wrote}
use Rattle.export_write.proofs.StartLaws.{setting_writes}
use Rattle.lists.proofs.Kit.{arith}
use Rattle.export_write.proofs.fixed.write_key.Goals as goal

pub returns : goal.returns
returns c =
    let a = c.args in
    let v = c.write_bytes-address in
    let l = c.address_end-last in
    let w = c.write_bytes-end in
    let z = c.start_setting in
    setting_writes _ (λ k. key k.target k.flags) _ a.at 7 w.result z.result a.buffer.now w.new.buffer z.new.buffer z.ensures (omega arith) (omega arith)
    (key_wrote a.region.now a.at v.result w.result l.result a.buffer.now v.new.buffer w.new.buffer v.ensures l.ensures.2 l.ensures.3 w.ensures)
