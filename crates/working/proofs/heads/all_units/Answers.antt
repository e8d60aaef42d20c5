use Rattle.lists.proofs.Kit.{sym, ◌∙◌, arith}
use native.Mathlib.Nat.{one-mul}
use Rattle.working.proofs.CountLaws.{sum_start, sum_step, units_end}
use Rattle.working.proofs.heads.all_units.Goals as goal

pub loop-k-init : goal.loop-k-init
loop-k-init c = sum_start _ _ _ _

pub loop-k-preserved : goal.loop-k-preserved
loop-k-preserved c = let u = c.run_units-sum in sum_step c.loop-k.invariant c.run_of-run.result u.result (omega arith) c.run_of-run.ensures.0 (u.ensures.0 ∙ sym (one-mul _)) u.ensures.1

pub returns : goal.returns
returns c = units_end _ c.loop-k.invariant (omega arith)
