use Rattle.lists.proofs.Kit.{arith, refl, sym, ◌∙◌, get_or, eq-eqb, ne_eqb, drop_of_length-le}
use Rattle.slots.proofs.Runs.{zeros_step}
use Rattle.slots.proofs.bytes.is_zeros.Goals as goal

pub loop-i-init : goal.loop-i-init
loop-i-init c = refl

pub returns-then-s-i-ne0 : goal.returns-then-s-i-ne0
returns-then-s-i-ne0 c =
    let l = c.loop-i in
    let s = c.args.s.now in
    sym (l.invariant ∙ zeros_step s l.i (omega arith) ∙ (rw (ne_eqb _ _ c.if-s-i-ne0.true)))

pub loop-i-preserved : goal.loop-i-preserved
loop-i-preserved c =
    let l = c.loop-i in
    let s = c.args.s.now in
    l.invariant ∙ zeros_step s l.i (omega arith) ∙ (rw (eq-eqb (get_or s l.i 0) 0 c.if-s-i-ne0.false))

pub returns : goal.returns
returns c =
    let l = c.loop-i in
    let s = c.args.s.now in
    sym (l.invariant ∙ (rw (drop_of_length-le s {i = l.i} (omega arith))))
