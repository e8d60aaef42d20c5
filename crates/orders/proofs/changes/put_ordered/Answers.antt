use Rattle.lists.proofs.Kit.{arith, refl}
use Rattle.orders.proofs.ListLaws.{ordered_not, ordered_full, ordered_over, ordered_behind}
use Rattle.orders.proofs.changes.put_ordered.Goals as goal
use Rattle.orders.proofs.changes.put_ordered.Goals.{then-part-n-via-then-part-n, then-part-n-via-else-part-n+then-part-n-lt2}

-- `orders::changes::put_ordered` meets its contract. Assumes nothing.
pub returns-then-part-n : goal.returns-then-part-n
returns-then-part-n c = let a = c.args in ordered_not a.w a.o a.k a.n a.slot.now a.part.now (elim c.then-part-n.branch [ then-part-n-via-then-part-n w ↦ omega arith | then-part-n-via-else-part-n+then-part-n-lt2 w ↦ omega arith ])

pub returns-then-not-put_keyed : goal.returns-then-not-put_keyed
returns-then-not-put_keyed c =
    let a = c.args in
    let y = c.put_keyed in
    ordered_full a.w a.o a.k a.n a.slot.now a.part.now _ refl y.new.part y.result y.ensures c.if-not-put_keyed.true

pub returns-then-count-held : goal.returns-then-count-held
returns-then-count-held c =
    let a = c.args in
    let y = c.put_keyed in
    let h = c.count-held in
    let m = c.count in
    let i = c.insert_order in
    ordered_behind a.w a.o a.k a.n a.slot.now a.part.now _ refl y.new.part y.result y.ensures c.if-not-put_keyed.false h.result m.result h.ensures m.ensures c.if-count-held.true i.new.s i.ensures

pub returns-else-count-held : goal.returns-else-count-held
returns-else-count-held c =
    let a = c.args in
    let y = c.put_keyed in
    let h = c.count-held in
    let m = c.count in
    ordered_over a.w a.o a.k a.n a.slot.now a.part.now _ refl y.new.part y.result y.ensures c.if-not-put_keyed.false h.result m.result h.ensures m.ensures c.if-count-held.false
