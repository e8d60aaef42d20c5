use Rattle.lists.proofs.Kit.{arith, refl, ◌∙◌, length-set}
use Rattle.slots.proofs.Runs.{copy_more, copy_done}
use Rattle.slots.proofs.bytes.copy.Goals as goal

pub loop-i-init : goal.loop-i-init
loop-i-init c = (refl, refl)

pub loop-i-preserved : goal.loop-i-preserved
loop-i-preserved c =
    let l = c.loop-i in
    let a = c.args in
    (rw l.invariant.0 (copy_more a.src.now a.dst.now l.i (omega arith) (omega arith)), simp length-set l.invariant.1)

pub returns : goal.returns
returns c =
    let l = c.loop-i in
    let a = c.args in
    l.invariant.0 ∙ copy_done a.src.now a.dst.now l.i (omega arith)
