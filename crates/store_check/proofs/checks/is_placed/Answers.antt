use Rattle.lists.proofs.Kit.{rules}
use Rattle.tables.proofs.AnswerLaws.{refused, not_said, was_said}
use Rattle.store_check.proofs.StoreChecks.{store_is, store_told}
use Rattle.store_check.proofs.checks.is_placed.Goals as goal

pub returns-then-not-regions_ok : goal.returns-then-not-regions_ok
returns-then-not-regions_ok c =
    refused (λ x. not_said c.regions_ok.result c.regions_ok.ensures c.if-not-regions_ok.true-raw ((store_is c.args.limits c.args.store.now c.requires.0 c.requires.1).1 x).0)

pub returns : goal.returns
returns c =
    store_told c.args.limits c.args.store.now c.requires.0 c.requires.1 c.regions_end-spare.result c.regions_end-spare.ensures (was_said c.regions_ok.result c.regions_ok.ensures c.if-not-regions_ok.false-raw) c.is_clear.result c.is_clear.ensures
