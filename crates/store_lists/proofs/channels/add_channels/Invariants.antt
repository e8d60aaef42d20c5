use Rattle.lists.proofs.Kit.{rules, arith, ◌-◌, ◌≡◌, refl, length, true, false, not-true, not-false}
use Rattle.store_lists.specs.Lists.{ChannelTable}
use Rattle.writing.specs.declared.Operation.TheVariants.{Add}
use Rattle.store_lists.proofs.ChannelLaws.{ChannelsLeft, channels_start, channels_end, channels_on, channels_stop}
use Rattle.store_lists.proofs.channels.add_channels.Given as goal

abbrev pub invariant-loop-i : goal.invariant-loop-i
invariant-loop-i l = (length l.list ≡ length l.initial.list) × ChannelsLeft ChannelTable Add l.m l.entries l.initial.list l.i l.list
