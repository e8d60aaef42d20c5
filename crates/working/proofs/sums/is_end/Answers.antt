use Rattle.lists.proofs.Kit.{eqb-true, eq-eqb}
use Rattle.tables.proofs.AnswerLaws.{refused}
use Rattle.working.proofs.sums.is_end.Goals as goal

pub returns-then-place-at-ne0 : goal.returns-then-place-at-ne0
returns-then-place-at-ne0 c = refused (λ x. c.if-place-at-ne0.true x.1)

pub returns : goal.returns
returns c = (λ e. (eqb-true _ _ e, c.if-place-at-ne0.false), λ x. eq-eqb _ _ x.0)
