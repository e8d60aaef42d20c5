use Rattle.working.proofs.SeenLaws.{filled_placed, filled_shared}
use Rattle.working.proofs.seen.fill.Goals as goal

pub returns-in-Placed : goal.returns-in-Placed
returns-in-Placed c = let a = c.args in filled_placed a.limits a.store.now a.work.now _ c.in-Placed.is

pub returns-in-Shared : goal.returns-in-Shared
returns-in-Shared c =
    let a = c.args in
    filled_shared a.limits a.store.now a.work.now _ _ c.in-Shared.is c.load.ensures
