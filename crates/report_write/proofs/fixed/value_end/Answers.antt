use Rattle.report_write.proofs.FixedItems.{ends_five, ends_eleven}
use Rattle.report_write.proofs.fixed.value_end.Goals as goal

pub returns-then-code-eq1 : goal.returns-then-code-eq1
returns-then-code-eq1 c = ends_five _ c.if-code-eq1.true

pub returns-else-code-eq1 : goal.returns-else-code-eq1
returns-else-code-eq1 c = ends_eleven _ c.if-code-eq1.false
