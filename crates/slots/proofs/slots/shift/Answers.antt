use Rattle.lists.proofs.Kit.{arith, ◌+◌, ◌<◌, ◌≡◌, refl, length, get_or, drop, add_comm, length-set, length-drop, get_or-drop}
use Rattle.slots.proofs.Runs.{copy_more, get_d_past, shift_done}
use Rattle.slots.proofs.slots.shift.Goals as goal

pub loop-i-init : goal.loop-i-init
loop-i-init c = (refl, refl)

pub loop-i-preserved : goal.loop-i-preserved
loop-i-preserved c =
    let l = c.loop-i in
    let s = c.args.s.now in
    let w = c.args.w in
    let d : l.i < length (drop w s) = simp length-drop (omega arith) in
    let e : get_or l.s (l.i + w) 0 ≡ get_or (drop w s) l.i 0
    = rw (l.invariant.0, get_d_past (drop w s) s l.i (l.i + w) (omega arith) (omega arith), get_or-drop w s l.i 0, add_comm w l.i) in
    (rw (e, l.invariant.0) (copy_more (drop w s) s l.i d (omega arith)), simp length-set l.invariant.1)

pub returns : goal.returns
returns c =
    let l = c.loop-i in
    let a = c.args in
    let n = c.saturating_sub-n.result in
    let i : l.i ≡ n = omega arith in
    shift_done a.s.now l.s c.wipe.new.s a.w n (omega arith) (rw i at l.invariant.0) l.invariant.1 c.wipe.ensures
