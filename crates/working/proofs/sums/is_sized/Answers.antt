use Rattle.lists.proofs.Kit.{arith}
use Rattle.tables.proofs.AnswerLaws.{refused}
use Rattle.working.proofs.sums.is_sized.Goals as goal

pub returns-then-work-limits : goal.returns-then-work-limits
returns-then-work-limits c = refused (λ x. omega (arith, x.0))

pub returns : goal.returns
returns c = (λ e. (omega arith, c.roomy.ensures.0 e), λ x. c.roomy.ensures.1 x.1)
