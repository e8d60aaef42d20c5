use Rattle.lists.proofs.Kit.{arith, refl, sym, ap, ◌∙◌, ◌&&◌, drop_of_length-le}
use Rattle.slots.specs.Slots.{zeros?}
use Rattle.slots.proofs.Runs.{zeros_step, still_more, still_all}
use Rattle.slots.proofs.bytes.is_clear.Goals as goal

pub loop-i-init : goal.loop-i-init
loop-i-init c = refl

pub loop-i-preserved : goal.loop-i-preserved
loop-i-preserved c =
    let l = c.loop-i in
    let s = c.args.s.now in
    l.invariant ∙ ap (λ x. l.clear && x) (zeros_step s l.i (omega arith)) ∙ still_more l.clear _ _

pub returns : goal.returns
returns c =
    let l = c.loop-i in
    let s = c.args.s.now in
    sym (l.invariant ∙ ap (λ x. l.clear && zeros? x) (drop_of_length-le s {i = l.i} (omega arith)) ∙ still_all l.clear)
