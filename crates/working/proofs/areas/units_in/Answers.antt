use Rattle.lists.proofs.Kit.{arith}
use Rattle.tables.proofs.AnswerLaws.{not_said, was_said}
use Rattle.working.proofs.areas.units_in.Goals as goal

pub returns-then-not-countable : goal.returns-then-not-countable
returns-then-not-countable c = (omega arith, λ h i. absurd (not_said c.countable.result c.countable.ensures c.if-not-countable.true-raw h))

pub heads_size-requires : goal.heads_size-requires
heads_size-requires c = was_said c.countable.result c.countable.ensures c.if-not-countable.false-raw

pub returns-then-store-heads_size : goal.returns-then-store-heads_size
returns-then-store-heads_size c = (omega arith, λ h i. absurd (omega (arith, i, c.heads_size.ensures)))

pub all_units-requires : goal.all_units-requires
all_units-requires c = let h = was_said c.countable.result c.countable.ensures c.if-not-countable.false-raw in (h.0, h.1, omega (arith, c.heads_size.ensures))
