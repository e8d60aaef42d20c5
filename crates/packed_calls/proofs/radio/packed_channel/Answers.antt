use Rattle.packing.proofs.ValueBits.{channel_packed}
use Rattle.packed_calls.proofs.radio.packed_channel.Goals as goal

pub returns : goal.returns
returns c =
    let x = c.channel_in-answer in
    channel_packed _ _ _ x.result c.pack_tuned.result x.ensures c.pack_tuned.ensures
