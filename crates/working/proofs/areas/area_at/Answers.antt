use Rattle.lists.proofs.Kit.{arith}
use Rattle.tables.proofs.AnswerLaws.{not_said, was_said}
use Rattle.working.proofs.areas.area_at.Goals as goal

pub returns-then-not-countable : goal.returns-then-not-countable
returns-then-not-countable c = (omega arith, λ h. absurd (not_said c.countable.result c.countable.ensures c.if-not-countable.true-raw h))

pub heads_size-requires : goal.heads_size-requires
heads_size-requires c = let h = was_said c.countable.result c.countable.ensures c.if-not-countable.false-raw in h

pub returns : goal.returns
returns c = let h = was_said c.countable.result c.countable.ensures c.if-not-countable.false-raw in (omega (arith, h.0, h.1, c.heads_size.ensures), λ i. c.heads_size.ensures)
