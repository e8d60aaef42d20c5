use Rattle.lists.proofs.Kit.{◌≤◌, ◌≡◌, length}
use Rattle.working.specs.Saving.{SumIn}
use Rattle.working.proofs.SaveTables.{Gathers}
use Rattle.working.proofs.saving.save_area.Given as goal

abbrev pub invariant-loop-k : goal.invariant-loop-k
invariant-loop-k l = (l.place ≤ length l.initial.area) × (length l.area ≡ length l.initial.area) × (SumIn l.limits l.work (length l.initial.area) → Gathers l.limits l.work l.initial.area l.area l.place l.k)
