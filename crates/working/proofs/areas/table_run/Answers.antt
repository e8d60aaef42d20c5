use Rattle.lists.proofs.Kit.{arith}
use Rattle.tables.proofs.AnswerLaws.{not_said, was_said}
use Rattle.working.proofs.areas.table_run.Goals as goal

pub returns-then-k-ge-TEXT_TABLES : goal.returns-then-k-ge-TEXT_TABLES
returns-then-k-ge-TEXT_TABLES c = λ h i. absurd (omega (arith, h))

pub returns-then-not-countable : goal.returns-then-not-countable
returns-then-not-countable c = λ h i. absurd (not_said c.countable.result c.countable.ensures c.if-not-countable.true-raw i)

pub run_of-requires : goal.run_of-requires
run_of-requires c = let h = was_said c.countable.result c.countable.ensures c.if-not-countable.false-raw in (omega arith, h.0, h.1)
