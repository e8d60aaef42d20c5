use Rattle.working.proofs.FormMoves.{placed_loaded, shared_loaded}
use Rattle.working.proofs.working.load.Goals as goal

pub returns-in-Placed : goal.returns-in-Placed
returns-in-Placed c =
    let a = c.args in
    placed_loaded a.limits c.in-Placed.is a.store.now a.work.now c.copy.new.dst c.copy.ensures

pub returns-in-Shared : goal.returns-in-Shared
returns-in-Shared c =
    let a = c.args in
    shared_loaded a.limits c.in-Shared.area c.in-Shared.is a.store.now a.work.now c.load_shared.new.work c.load_shared.ensures
