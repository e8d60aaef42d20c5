use Prim.Native.Nat.{◌-◌}
use mathlib.Core.Path.{refl}
use native.Mathlib.Omega.{arith}
use Rattle.orders.proofs.Checking.{entry_first, entry_next}
use Rattle.orders.proofs.orders.entry_ok.Goals as goal

pub returns-then-i-eq0 : goal.returns-then-i-eq0
returns-then-i-eq0 c =
    let a = c.args in
    λ h m l u. entry_first a.w a.o a.k a.n a.count a.s.now h a.i c.wide-b.result l m c.wide-b.ensures.0 (omega (arith, c.if-b-eq0.false)) (omega arith) c.if-i-eq0.true

pub returns : goal.returns
returns c =
    let a = c.args in
    λ h m l u. entry_next a.w a.o a.k a.n a.count a.s.now h a.i c.wide-b.result l m c.wide-b.ensures.0 c.position-before.result (c.wide-b.result - 1) c.key_before.result (omega (arith, c.if-b-eq0.false)) (omega arith) (omega (arith, c.if-i-eq0.false)) c.position-before.ensures.0 refl u c.key_before.ensures
