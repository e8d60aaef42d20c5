use Rattle.lists.proofs.Kit.{arith}
use Rattle.working.proofs.CountLaws.{sum_start, sum_step, bytes_end}
use Rattle.working.proofs.sums.all_bytes.Goals as goal

pub loop-k-init : goal.loop-k-init
loop-k-init c = sum_start _ _ _ _

pub loop-k-preserved : goal.loop-k-preserved
loop-k-preserved c = sum_step c.loop-k.invariant c.run_of-run.result c.run_bytes-sum.result (omega arith) c.run_of-run.ensures.0 c.run_bytes-sum.ensures.0 c.run_bytes-sum.ensures.1

pub returns : goal.returns
returns c = bytes_end _ c.loop-k.invariant (omega arith)
