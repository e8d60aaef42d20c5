use borrow.Author.Rules.{rules}
use Rattle.tables.proofs.AnswerLaws.{not_said, was_said}
use Rattle.store_apply.proofs.StoreLaws.{no_store}
use Rattle.store_apply.proofs.store.apply.Goals as goal

pub returns-then-store-limits : goal.returns-then-store-limits
returns-then-store-limits c =
    let a = c.args in
    no_store a.limits a.m.now a.store.now a.store.now a.setting _ _ (λ _ e. c.if-store-limits.true e)

pub returns-then-not-roomy : goal.returns-then-not-roomy
returns-then-not-roomy c =
    let a = c.args in
    no_store a.limits a.m.now a.store.now a.store.now a.setting _ _ (λ h _. not_said c.roomy.result c.roomy.ensures c.if-not-roomy.true-raw h)

pub apply_region-requires : goal.apply_region-requires
apply_region-requires c =
    (was_said c.roomy.result c.roomy.ensures c.if-not-roomy.false-raw, c.if-store-limits.false)
