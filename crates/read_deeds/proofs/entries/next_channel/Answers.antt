use Rattle.lists.proofs.Kit.{rules, refl, arith}
use Rattle.read_deeds.proofs.EntryLaws.{channel_put, none_channel, channel_next}
use Rattle.read_deeds.proofs.entries.next_channel.Goals as goal

pub returns-then-left : goal.returns-then-left
returns-then-left c =
    let a = c.args in
    none_channel a.m.now a.left c.stay.result (omega arith)

pub returns : goal.returns
returns c =
    let a = c.args in
    let n = c.channel_at-channel in
    channel_next a.m.now a.left c.pass.result _ n.result n.ensures (channel_put a.m.now n.result _ refl) c.pass.ensures
