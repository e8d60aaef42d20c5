use Rattle.working.proofs.LoadLaws.{Loading}
use Rattle.working.proofs.loading.load_table.Given as goal

abbrev pub invariant-loop-i : goal.invariant-loop-i
invariant-loop-i l = Loading l.slots l.heads l.area l.own l.room l.n l.from l.width l.place l.at l.to l.i
