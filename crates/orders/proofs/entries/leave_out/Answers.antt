use native.Mathlib.Omega.{arith}
use Rattle.orders.proofs.Steps.{out_start, out_moved, out_stayed, out_end}
use Rattle.orders.proofs.entries.leave_out.Goals as goal
use Rattle.orders.proofs.entries.leave_out.Goals.{then-b-v, else-b-v}

pub loop-i-init : goal.loop-i-init
loop-i-init c = out_start _ _

pub loop-i-preserved : goal.loop-i-preserved
loop-i-preserved c =
    let l = c.loop-i in
    let a = c.args in
    elim c.if-b-v.branch [
      | then-b-v w ↦ out_moved a.v a.d.now l.d l.i l.j l.invariant (omega arith) c.if-b-v.d c.if-b-v.j w.lowered.result w.lowered.ensures w.if-b-v.true w.d-is w.j-is
      | else-b-v w ↦ out_stayed a.v a.d.now l.d l.i l.j l.invariant (omega arith) c.if-b-v.d c.if-b-v.j w.if-b-v.false w.d-is w.j-is
    ]

pub returns : goal.returns
returns c =
    let l = c.loop-i in
    let a = c.args in
    out_end a.v a.d.now l.d c.wipe.new.s l.i l.j l.invariant (omega arith) c.wipe.ensures
