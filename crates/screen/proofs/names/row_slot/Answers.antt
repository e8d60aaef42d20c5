use Rattle.tables.proofs.AnswerLaws.{not_said, was_said}
use Rattle.screen.proofs.names.row_slot.Goals as goal

pub returns-then-not-roomy : goal.returns-then-not-roomy
returns-then-not-roomy c = λ r. absurd (not_said c.roomy.result c.roomy.ensures c.if-not-roomy.true-raw r)

pub slot_of-requires : goal.slot_of-requires
slot_of-requires c = was_said c.roomy.result c.roomy.ensures c.if-not-roomy.false-raw

pub returns : goal.returns
returns c = λ r. c.slot_of.ensures
