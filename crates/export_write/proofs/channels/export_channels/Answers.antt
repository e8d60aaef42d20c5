use Rattle.writing.specs.declared.Operation.TheVariants.{Replace}
use Rattle.writing.specs.Settings.{channels}
use Rattle.export_write.proofs.ChannelWriting.{channels_wrote}
use Rattle.export_write.proofs.StartLaws.{setting_writes, one_writes}
use Rattle.lists.proofs.Kit.{arith}
use Rattle.export_write.proofs.channels.export_channels.Goals as goal

pub returns-then-region-gt2046 : goal.returns-then-region-gt2046
returns-then-region-gt2046 c = λ h. absurd (omega (arith, h.0))

pub returns-then-buffer-region : goal.returns-then-buffer-region
returns-then-buffer-region c = λ h. absurd (omega (arith, h.1))

pub returns : goal.returns
returns c =
    let a = c.args in
    let n = c.used-count in
    let v = c.write_bytes-entries in
    let w = c.write_packed-packed in
    let z = c.start_setting-end in
    λ h. one_writes _ (channels Replace) 8 _ z.result a.buffer.now z.new.buffer
    (setting_writes _ (channels Replace) _ 8 _ w.result z.result a.buffer.now w.new.buffer z.new.buffer z.ensures (omega arith) (omega (arith, n.ensures.within))
    (channels_wrote a.region.now 8 n.result v.result w.result a.buffer.now v.new.buffer w.new.buffer (omega (arith, n.ensures.within)) n.ensures v.ensures w.ensures))
