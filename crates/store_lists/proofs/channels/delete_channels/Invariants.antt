use Rattle.lists.proofs.Kit.{rules, arith, ◌-◌, ◌≡◌, refl, true, ◌++◌, length}
use Rattle.writing.specs.declared.Operation.TheVariants.{Delete}
use Rattle.store_lists.proofs.ChannelLaws.{ChannelsLeft, channels_start, channels_end, channels_on}
use Rattle.store_lists.proofs.MarkLaws.{MarkedTable, marked_turn, marked_done}
use Rattle.store_lists.proofs.channels.delete_channels.Given as goal

abbrev pub invariant-loop-i : goal.invariant-loop-i
invariant-loop-i l =
    (length l.list ≡ length l.initial.list) × (length l.initial.marks ≡ 641) × (length l.marks ≡ 641) × ChannelsLeft MarkedTable Delete l.m l.entries (l.initial.marks ++ l.initial.list) l.i (l.marks ++ l.list)
