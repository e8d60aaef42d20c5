use Rattle.working.proofs.FormMoves.{placed_saved, shared_saved}
use Rattle.working.proofs.working.save.Goals as goal

pub returns-in-Placed : goal.returns-in-Placed
returns-in-Placed c =
    let a = c.args in
    placed_saved a.limits c.in-Placed.is a.work.now a.store.now c.copy.new.dst c.copy.ensures

pub returns-in-Shared : goal.returns-in-Shared
returns-in-Shared c =
    let a = c.args in
    shared_saved a.limits c.in-Shared.area c.in-Shared.is a.work.now a.store.now c.save_shared.new.store c.save_shared.ensures
