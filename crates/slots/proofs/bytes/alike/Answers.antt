use Rattle.lists.proofs.Kit.{arith, refl, sym, ap, ◌∙◌, ◌&&◌, [], length, drop, drop_of_length-le}
use Rattle.slots.specs.Slots.{same?}
use Rattle.slots.proofs.Runs.{same_step, same_not, still_more, still_all}
use Rattle.slots.proofs.bytes.alike.Goals as goal

pub returns-then-b-a : goal.returns-then-b-a
returns-then-b-a c =
    let a = c.args in
    sym (same_not a.a.now a.b.now (λ e. omega (arith, ap length e)))

pub loop-i-init : goal.loop-i-init
loop-i-init c = refl

pub loop-i-preserved : goal.loop-i-preserved
loop-i-preserved c =
    let l = c.loop-i in
    let a = c.args in
    l.invariant ∙ ap (λ x. l.all && x) (same_step a.a.now a.b.now l.i (omega arith) (omega arith)) ∙ still_more l.all _ _

pub returns : goal.returns
returns c =
    let l = c.loop-i in
    let a = c.args in
    sym
    (l.invariant ∙ ap (λ x. l.all && same? x (drop l.i a.b.now)) (drop_of_length-le a.a.now {i = l.i} (omega arith))
    ∙ ap (λ x. l.all && same? [] x) (drop_of_length-le a.b.now {i = l.i} (omega arith)) ∙ still_all l.all)
