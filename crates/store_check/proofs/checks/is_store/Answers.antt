use Rattle.lists.proofs.Kit.{rules}
use Rattle.tables.proofs.AnswerLaws.{refused, not_said, was_said, turned}
use Rattle.store_check.proofs.checks.is_store.Goals as goal

pub returns-then-store-limits : goal.returns-then-store-limits
returns-then-store-limits c = refused (λ x. c.if-store-limits.true x.size)

pub returns-then-not-roomy : goal.returns-then-not-roomy
returns-then-not-roomy c = refused (λ x. not_said c.roomy.result c.roomy.ensures c.if-not-roomy.true-raw x.roomy)

pub is_laid-requires : goal.is_laid-requires
is_laid-requires c = (was_said c.roomy.result c.roomy.ensures c.if-not-roomy.false-raw, c.if-store-limits.false)

pub returns : goal.returns
returns c = turned c.is_laid.result c.is_laid.ensures (λ x. record { size = c.if-store-limits.false; roomy = was_said c.roomy.result c.roomy.ensures c.if-not-roomy.false-raw; store = x }) (λ x. x.store)
