use Rattle.lists.proofs.Kit.{rules, arith, refl}
use Rattle.tables.proofs.StartLaws.{placed_fits, shared_fits}
use Rattle.tables.proofs.limits.area_fits.Goals as goal

pub returns-in-Placed : goal.returns-in-Placed
returns-in-Placed c = (λ _. placed_fits c.args.limits c.in-Placed.is, λ _. refl)

pub returns-in-Shared : goal.returns-in-Shared
returns-in-Shared c =
    let a = c.args in
    shared_fits a.limits c.in-Shared.area c.heads_size.result c.in-Shared.is c.heads_size.ensures c.requires.2
