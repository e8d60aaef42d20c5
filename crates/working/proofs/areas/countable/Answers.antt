use Rattle.lists.proofs.Kit.{arith, le-leb, leb-true}
use Rattle.tables.proofs.AnswerLaws.{refused}
use Rattle.working.proofs.areas.countable.Goals as goal

pub returns-then-limits-gt-COUNTED : goal.returns-then-limits-gt-COUNTED
returns-then-limits-gt-COUNTED c = refused (λ x. omega (arith, x.0))

pub returns : goal.returns
returns c = (λ e. (omega arith, leb-true _ _ e), λ x. le-leb _ _ x.1)
