use native.Mathlib.Omega.{arith}
use mathlib.Core.Path.{sym, subst}
use Rattle.orders.specs.OrderParts.{Finds}
use Rattle.orders.proofs.Lookups.{found_none, found_either}
use Rattle.orders.proofs.orders.find.Goals as goal

pub returns-then-count-i : goal.returns-then-count-i
returns-then-count-i c =
    let a = c.args in
    let p = c.place-i in
    λ h g. found_none a.w a.o a.k a.n a.count a.s.now a.key.now p.result h g p.ensures.parts (λ l e. omega arith)

pub returns : goal.returns
returns c =
    let a = c.args in
    let p = c.place-i in
    λ h g. subst (λ v. Finds a.w a.o a.k a.count a.s.now a.key.now v) (sym c.then_some.ensures)
    (found_either a.w a.o a.k a.n a.count a.s.now a.key.now p.result h g p.ensures.parts (omega arith) c.position-p.result c.position-p.ensures.0 c.slot_has.result c.slot_has.ensures)
