use Rattle.working.proofs.SaveTables.{Saves}
use Rattle.working.proofs.saving.save_tables.Given as goal

abbrev pub invariant-loop-k : goal.invariant-loop-k
invariant-loop-k l = Saves l.limits l.work l.initial.store l.store l.heads l.slots l.k
