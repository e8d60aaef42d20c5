use Rattle.working.proofs.LoadTables.{Loads}
use Rattle.working.proofs.loading.load_tables.Given as goal

abbrev pub invariant-loop-k : goal.invariant-loop-k
invariant-loop-k l = Loads l.limits l.store l.texts l.initial.work l.work l.heads l.slots l.place l.k
