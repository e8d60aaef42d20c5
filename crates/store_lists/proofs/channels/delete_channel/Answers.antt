use Rattle.lists.proofs.Kit.{rules}
use Rattle.store_lists.proofs.ChannelLaws.{channel_deleted}
use Rattle.store_lists.proofs.channels.delete_channel.Goals as goal

pub returns : goal.returns
returns c =
    let a = c.args in
    let b = c.channel_slot-key in
    let k = c.drop_keyed in
    channel_deleted a.n b.result a.list.now k.new.part b.ensures k.ensures
