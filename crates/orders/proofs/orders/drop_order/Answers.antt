use Rattle.orders.proofs.Lookups.{dropped}
use Rattle.orders.proofs.orders.drop_order.Goals as goal

pub returns : goal.returns
returns c = let a = c.args in dropped a.n a.p a.s.now c.leave_out.new.d c.leave_out.ensures
