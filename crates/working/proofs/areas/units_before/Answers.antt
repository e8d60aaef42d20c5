use Rattle.lists.proofs.Kit.{arith}
use Rattle.tables.proofs.AnswerLaws.{not_said, was_said}
use Rattle.working.proofs.areas.units_before.Goals as goal

pub returns-then-not-has_head : goal.returns-then-not-has_head
returns-then-not-has_head c = (omega arith, λ h. absurd (not_said c.has_head.result c.has_head.ensures c.if-not-has_head.true-raw h))

pub units_to-requires : goal.units_to-requires
units_to-requires c = was_said c.has_head.result c.has_head.ensures c.if-not-has_head.false-raw
