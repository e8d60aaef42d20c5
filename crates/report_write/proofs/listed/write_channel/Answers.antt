use Rattle.report_write.proofs.ListedItems.{channel_writes}
use Rattle.report_write.proofs.listed.write_channel.Goals as goal

pub returns : goal.returns
returns c =
    let a = c.args in
    let k = c.pair in
    let v = c.put_bits in
    channel_writes a.slot.now a.buffer.now v.new.buffer a.rank k.result v.result k.ensures.0 v.ensures
