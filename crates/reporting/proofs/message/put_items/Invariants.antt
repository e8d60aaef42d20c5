use Rattle.lists.proofs.Kit.{◌≤◌, ◌≡◌, length}
use Rattle.reporting.proofs.PutLaws.{Putting}
use Rattle.reporting.proofs.message.put_items.Given as goal

abbrev pub invariant-loop-ask : goal.invariant-loop-ask
invariant-loop-ask l = (length l.buffer ≡ length l.initial.buffer) × (l.spot.rank ≤ l.spot.place) × Putting l.limits l.types l.work l.initial.ask l.initial.spot l.initial.buffer l.ask l.buffer l.spot
