use Rattle.lists.proofs.Kit.{arith, eq-eqb, ne_eqb}
use Rattle.working.proofs.PartLoadTables.{chosen, passed}
use Rattle.working.proofs.part_loading.order_of.Goals as goal

pub returns-then-k-eq-LINES : goal.returns-then-k-eq-LINES
returns-then-k-eq-LINES c = chosen c.args.limits.lines 0 (eq-eqb c.args.k 7 (omega arith))

pub returns-else-k-eq-LINES : goal.returns-else-k-eq-LINES
returns-else-k-eq-LINES c = passed c.args.limits.lines 0 (ne_eqb c.args.k 7 c.if-k-eq-LINES.false)
