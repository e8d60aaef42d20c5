use Rattle.lists.proofs.Kit.{arith, refl, ap, ◌∙◌, length, length-set}
use Rattle.slots.proofs.Widening.{widened, wiped_length, widen_none, widen_more, widen_done}
use Rattle.slots.proofs.bytes.widen_padded.Goals as goal

pub loop-i-init : goal.loop-i-init
loop-i-init c =
    let w = c.wipe in
    (widen_none (length c.args.dst.now) w.new.s w.ensures, refl)

pub loop-i-preserved : goal.loop-i-preserved
loop-i-preserved c =
    let l = c.loop-i in
    let w = c.wipe in
    let src = c.args.src.now in
    (rw l.invariant.0 (widen_more (length w.new.s) l.i src (λ j. (c.type_inv.src j).fits) (omega arith) (omega arith)), simp length-set l.invariant.1)

pub returns : goal.returns
returns c =
    let l = c.loop-i in
    let w = c.wipe in
    let a = c.args in
    l.invariant.0 ∙ widen_done (length w.new.s) l.i a.src.now (λ j. (c.type_inv.src j).fits) (omega arith) ∙ ap (λ n. widened n a.src.now) (wiped_length (length a.dst.now) w.new.s w.ensures)
