use Rattle.writing.specs.declared.Operation.TheVariants.{Replace}
use Rattle.writing.specs.Settings.{status_texts}
use Rattle.export_write.specs.EntrySettings.{entries}
use Rattle.export_write.proofs.TextSettings.{status_wrote}
use Rattle.export_write.proofs.StartLaws.{setting_writes, one_writes}
use Rattle.lists.proofs.Kit.{arith}
use Rattle.export_write.proofs.text_lists.export_status.Goals as goal

pub returns-then-region-ne-STATUS_SIZE : goal.returns-then-region-ne-STATUS_SIZE
returns-then-region-ne-STATUS_SIZE c = λ h. absurd (omega (arith, h.0))

pub returns-then-buffer : goal.returns-then-buffer
returns-then-buffer c = λ h. absurd (omega (arith, h.1))

pub returns : goal.returns
returns c =
    let a = c.args in
    let x = c.write_entries-entries in
    let w = c.write_bytes in
    let z = c.start_setting-end in
    λ h. one_writes _ (λ os. status_texts Replace (entries 32 os)) 8 3365 z.result a.buffer.now z.new.buffer
    (setting_writes _ (λ os. status_texts Replace (entries 32 os)) _ 8 3365 x.result.end z.result a.buffer.now w.new.buffer z.new.buffer z.ensures (omega arith) (omega (arith, x.ensures.most, x.ensures.few))
    (status_wrote a.region.now a.buffer.now x.new.buffer w.new.buffer 8 w.result x.result x.ensures w.ensures))
