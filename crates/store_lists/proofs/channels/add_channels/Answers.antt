use Rattle.lists.proofs.Kit.{rules, arith, ◌-◌, ◌≡◌, refl, length, true, false, not-true, not-false}
use Rattle.store_lists.specs.Lists.{ChannelTable}
use Rattle.writing.specs.declared.Operation.TheVariants.{Add}
use Rattle.store_lists.proofs.ChannelLaws.{ChannelsLeft, channels_start, channels_end, channels_on, channels_stop}
use Rattle.store_lists.proofs.channels.add_channels.Goals as goal

pub loop-i-init : goal.loop-i-init
loop-i-init c =
    let a = c.args in
    (refl, channels_start ChannelTable Add a.m.now a.entries _)

pub returns-then-not-add_channel : goal.returns-then-not-add_channel
returns-then-not-add_channel c =
    let a = c.args in
    let l = c.loop-i in
    let h = c.channel_at in
    let k = c.add_channel in
    channels_stop ChannelTable Add a.m.now a.entries a.list.now l.i h.result l.list k.new.list k.result (omega arith) l.invariant.1 h.ensures k.ensures (not-true k.result c.if-not-add_channel.true-raw)

pub loop-i-preserved : goal.loop-i-preserved
loop-i-preserved c =
    let a = c.args in
    let l = c.loop-i in
    let h = c.channel_at in
    let k = c.add_channel in
    (search rules, channels_on ChannelTable Add a.m.now a.entries a.list.now l.i h.result l.list k.new.list k.result (omega arith) l.invariant.1 h.ensures k.ensures (not-false k.result c.if-not-add_channel.false-raw))

pub returns : goal.returns
returns c =
    let a = c.args in
    let l = c.loop-i in
    channels_end ChannelTable Add a.m.now a.entries a.list.now l.i l.list (omega arith) l.invariant.1
