use Rattle.lists.proofs.Kit.{arith, lt-ltb, le-ltb}
use Rattle.working.proofs.PartLoadTables.{chosen, passed}
use Rattle.working.proofs.part_loading.count_of.Goals as goal

pub returns-then-k-lt-LISTS : goal.returns-then-k-lt-LISTS
returns-then-k-lt-LISTS c = chosen 0 2 (lt-ltb c.args.k 5 (omega arith))

pub returns-else-k-lt-LISTS : goal.returns-else-k-lt-LISTS
returns-else-k-lt-LISTS c = passed 0 2 (le-ltb c.args.k 5 (omega arith))
