use Prim.Native.Nat.{◌-◌, ◌+◌, ◌/◌}
use native.Mathlib.Omega.{arith}
use Rattle.orders.specs.OrderParts.{key_at}
use Rattle.orders.proofs.Lookups.{parts_start, parts_up, parts_down, parts_end}
use Rattle.orders.proofs.orders.place.Goals as goal

pub loop-lo-init : goal.loop-lo-init
loop-lo-init c = let a = c.args in (omega arith, (omega arith, λ ps g. parts_start a.w a.o a.k a.n a.count a.s.now ps g a.key.now))

pub loop-lo-preserved-then-slot_before : goal.loop-lo-preserved-then-slot_before
loop-lo-preserved-then-slot_before c =
    let a = c.args in
    let l = c.loop-lo in
    let p = c.position-p in
    let b = c.slot_before in
    (omega arith, (omega arith, λ ps g. parts_up a.w a.o a.k a.n a.count a.s.now ps g a.key.now p.result (l.lo + (l.hi - l.lo) / 2) (omega arith) p.ensures.0 b.result b.ensures l.lo l.hi c.if-slot_before.true (l.invariant.1.1 ps g)))

pub loop-lo-preserved : goal.loop-lo-preserved
loop-lo-preserved c =
    let a = c.args in
    let l = c.loop-lo in
    let p = c.position-p in
    let b = c.slot_before in
    (omega arith, (omega arith, λ ps g. parts_down a.w a.o a.k a.n a.count a.s.now ps g a.key.now p.result (l.lo + (l.hi - l.lo) / 2) (omega arith) p.ensures.0 b.result b.ensures l.lo l.hi c.if-slot_before.false (l.invariant.1.1 ps g)))

pub returns : goal.returns
returns c =
    let a = c.args in
    let l = c.loop-lo in
    record { within = omega arith; parts = λ ps g. parts_end (key_at a.w a.o a.k a.s.now) ps a.key.now l.lo l.hi (omega arith) (omega arith) (l.invariant.1.1 ps g) }
