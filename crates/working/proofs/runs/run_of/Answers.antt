use Rattle.lists.proofs.Kit.{◌≡◌, ap, arith}
use Rattle.working.specs.Runs.{run_of}
use Rattle.working.proofs.RunTable.{stands_as, table_run}
use Rattle.working.proofs.runs.run_of.Goals as goal

pub returns-then-k-lt-LINES : goal.returns-then-k-lt-LINES
returns-then-k-lt-LINES c = let a = c.args in stands_as a.limits (omega arith) (omega arith) _ a.k (omega arith) (table_run a.limits a.k (omega arith))

pub returns : goal.returns
returns c =
    let a = c.args in
    let e : 7 ≡ a.k = omega arith in
    stands_as a.limits (omega arith) (omega arith) _ a.k (omega arith) (ap (run_of a.limits) e)
