use Rattle.lists.proofs.Kit.{rules, arith, ◌-◌, ℕ, ◌≡◌, refl, subst, length}
use Rattle.store_lists.specs.Lists.{OneMarked}
use Rattle.store_lists.proofs.MarkLaws.{MarkedTo, marked_on, marked_end, marked_short, marked_past}
use Rattle.store_lists.proofs.marks.mark_channels.Given as goal

abbrev pub invariant-loop-i : goal.invariant-loop-i
invariant-loop-i l = (length l.marks ≡ length l.initial.marks) × MarkedTo l.list l.marks l.i
