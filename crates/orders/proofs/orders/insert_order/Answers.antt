use Rattle.orders.proofs.Lookups.{inserted}
use Rattle.orders.proofs.orders.insert_order.Goals as goal

pub returns : goal.returns
returns c =
    let a = c.args in
    let p = c.slot_place-i in
    inserted a.w a.o a.k a.n a.count a.s.now c.put_in.new.d p.result p.ensures.within p.ensures.parts c.put_in.ensures
