use mathlib.Core.Path.{refl, sym, ◌∙◌}
use native.Mathlib.Omega.{arith}
use Rattle.orders.proofs.Comparing.{less_more, less_differ, less_short, less_end}
use Rattle.orders.proofs.keys.less.Goals as goal

pub loop-i-init : goal.loop-i-init
loop-i-init c = (omega arith, (omega arith, refl))

pub returns-then-b-i : goal.returns-then-b-i
returns-then-b-i c =
    let l = c.loop-i in
    let a = c.args in
    sym (l.invariant.1.1 ∙ less_short a.a.now a.b.now l.i (omega arith) (omega arith))

pub returns-then-a-i : goal.returns-then-a-i
returns-then-a-i c =
    let l = c.loop-i in
    let a = c.args in
    sym (l.invariant.1.1 ∙ less_differ a.a.now a.b.now l.i (omega arith) (omega arith) c.if-a-i.true)

pub loop-i-preserved : goal.loop-i-preserved
loop-i-preserved c =
    let l = c.loop-i in
    let a = c.args in
    (omega arith, (omega arith, l.invariant.1.1 ∙ less_more a.a.now a.b.now l.i (omega arith) (omega arith) c.if-a-i.false))

pub returns : goal.returns
returns c =
    let l = c.loop-i in
    let a = c.args in
    sym (l.invariant.1.1 ∙ less_end a.a.now a.b.now l.i (omega arith))
