use Rattle.lists.proofs.Kit.{rules}
use Rattle.tables.proofs.AnswerLaws.{turned}
use Rattle.store_check.proofs.FormChecks.{placed_store, shared_store, shared_room}
use Rattle.store_check.proofs.checks.is_laid.Goals as goal

pub is_shared-requires : goal.is_shared-requires
is_shared-requires c =
    (shared_room c.args.limits c.in-Shared.area c.in-Shared.is c.requires.0, c.requires.1)

pub returns-in-Placed : goal.returns-in-Placed
returns-in-Placed c =
    let e = placed_store c.args.limits c.args.store.now c.in-Placed.is in
    turned c.is_placed.result c.is_placed.ensures e.0 e.1

pub returns-in-Shared : goal.returns-in-Shared
returns-in-Shared c =
    let e = shared_store c.args.limits c.in-Shared.area c.args.store.now c.in-Shared.is in
    turned c.is_shared.result c.is_shared.ensures e.0 e.1
