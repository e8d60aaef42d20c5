use Rattle.lists.proofs.Kit.{rules, arith, ◌-◌, ◌≡◌, refl, true, ◌++◌, length}
use Rattle.writing.specs.declared.Operation.TheVariants.{Delete}
use Rattle.store_lists.proofs.ChannelLaws.{ChannelsLeft, channels_start, channels_end, channels_on}
use Rattle.store_lists.proofs.MarkLaws.{MarkedTable, marked_turn, marked_done}
use Rattle.store_lists.proofs.channels.delete_channels.Goals as goal

pub loop-i-init : goal.loop-i-init
loop-i-init c =
    let a = c.args in
    let z = c.mark_channels in
    let long : length z.new.marks ≡ 641 = search rules in
    (refl, long, long, channels_start MarkedTable Delete a.m.now a.entries (z.new.marks ++ a.list.now))

pub loop-i-preserved : goal.loop-i-preserved
loop-i-preserved c =
    let a = c.args in
    let z = c.mark_channels in
    let l = c.loop-i in
    let h = c.channel_at in
    let k = c.delete_marked in
    let long : length k.new.marks ≡ 641 = search rules in (
      search rules,
      l.invariant.1,
      long,
      channels_on MarkedTable Delete a.m.now a.entries (z.new.marks ++ a.list.now) l.i h.result (l.marks ++ l.list) (k.new.marks ++ k.new.list) true (omega arith) l.invariant.3 h.ensures
          (marked_turn h.result l.list l.marks k.new.list k.new.marks l.invariant.2 long k.ensures) refl,
    )

pub returns : goal.returns
returns c =
    let a = c.args in
    let z = c.mark_channels in
    let l = c.loop-i in
    marked_done a.m.now a.entries a.list.now z.new.marks l.list l.marks l.invariant.1 l.invariant.2 z.ensures
    (channels_end MarkedTable Delete a.m.now a.entries (z.new.marks ++ a.list.now) l.i (l.marks ++ l.list) (omega arith) l.invariant.3)
