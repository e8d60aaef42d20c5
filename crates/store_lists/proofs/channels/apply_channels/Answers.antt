use Rattle.lists.proofs.Kit.{rules, true}
use Rattle.store_lists.proofs.ChannelLaws.{channels_applied}
use Rattle.store_lists.proofs.channels.apply_channels.Goals as goal

pub returns-in-Add : goal.returns-in-Add
returns-in-Add c =
    let a = c.args in
    let z = c.empty_to_replace in
    let k = c.add_channels in
    channels_applied a.operation a.m.now a.entries a.list.now z.new.part k.new.list k.result z.ensures (rw c.in-Add.is k.ensures)

pub returns-in-Delete : goal.returns-in-Delete
returns-in-Delete c =
    let a = c.args in
    let z = c.empty_to_replace in
    let k = c.delete_channels in
    channels_applied a.operation a.m.now a.entries a.list.now z.new.part k.new.list true z.ensures (rw c.in-Delete.is k.ensures)

pub returns-in-Replace : goal.returns-in-Replace
returns-in-Replace c =
    let a = c.args in
    let z = c.empty_to_replace in
    let k = c.add_channels-in-Replace in
    channels_applied a.operation a.m.now a.entries a.list.now z.new.part k.new.list k.result z.ensures (rw c.in-Replace.is k.ensures)
