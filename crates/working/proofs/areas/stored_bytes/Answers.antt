use Rattle.working.proofs.FormMoves.{placed_summed, shared_summed}
use Rattle.working.proofs.areas.stored_bytes.Goals as goal

pub returns-in-Placed : goal.returns-in-Placed
returns-in-Placed c = let a = c.args in placed_summed a.limits c.in-Placed.is a.store.now 0

pub returns-in-Shared : goal.returns-in-Shared
returns-in-Shared c = let a = c.args in shared_summed a.limits _ c.in-Shared.is a.store.now c.units_in.result c.units_in.ensures.1
