use Rattle.lists.proofs.Kit.{◌≤◌, ◌-◌, ◌≡◌, length}
use Rattle.reporting.proofs.PutLaws.{Passing}
use Rattle.reporting.proofs.message.put_table.Given as goal

abbrev pub invariant-loop-s : goal.invariant-loop-s
invariant-loop-s l = (length l.buffer ≡ length l.initial.buffer) × (l.s.rank ≤ l.s.place) × Passing l.limits l.asked l.work l.initial.s l.initial.buffer l.buffer l.s

abbrev pub decreases-loop-s : goal.decreases-loop-s
decreases-loop-s l = l.places - l.s.place
