use Rattle.lists.proofs.Kit.{rules}
use Rattle.store_lists.proofs.ChannelLaws.{channel_added}
use Rattle.store_lists.proofs.channels.add_channel.Goals as goal

pub returns : goal.returns
returns c =
    let a = c.args in
    let b = c.channel_slot-slot in
    let k = c.add_end in
    channel_added a.n b.result a.list.now k.new.part k.result b.ensures k.ensures
