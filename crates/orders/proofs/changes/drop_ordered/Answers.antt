use Rattle.lists.proofs.Kit.{arith, refl}
use Rattle.orders.proofs.ListLaws.{undropped, ordered_kept, ordered_dropped}
use Rattle.orders.proofs.changes.drop_ordered.Goals as goal
use Rattle.orders.proofs.changes.drop_ordered.Goals.{then-part-n-via-then-part-n, then-part-n-via-else-part-n+then-part-n-lt2}

-- `orders::changes::drop_ordered` meets its contract. Assumes nothing.
pub returns-then-part-n : goal.returns-then-part-n
returns-then-part-n c = let a = c.args in undropped a.w a.o a.n a.key.now a.part.now (elim c.then-part-n.branch [ then-part-n-via-then-part-n w ↦ omega arith | then-part-n-via-else-part-n+then-part-n-lt2 w ↦ omega arith ])

pub returns-in_default : goal.returns-in_default
returns-in_default c =
    let a = c.args in
    let h = c.count-held in
    let f = c.find in
    ordered_kept a.w a.o a.n a.key.now a.part.now _ h.result refl h.ensures f.result f.ensures c.in_default.is

pub returns : goal.returns
returns c =
    let a = c.args in
    let h = c.count-held in
    let f = c.find in
    let y = c.drop_keyed in
    let d = c.drop_order in
    ordered_dropped a.w a.o a.n a.key.now a.part.now _ h.result refl h.ensures f.result f.ensures c.in-Some.p y.new.part d.new.s c.in-Some.is y.ensures d.ensures
