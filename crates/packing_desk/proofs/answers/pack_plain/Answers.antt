use Rattle.lists.proofs.Kit.{rules, arith}
use Rattle.packing.proofs.Packed.{said_case, packed_refusal}
use Rattle.plain.specs.Plain.{plain_said}
use Rattle.packing_desk.proofs.answers.pack_plain.Goals as goal

pub returns-in-Untouched : goal.returns-in-Untouched
returns-in-Untouched c = said_case plain_said _ _ _ c.in-Untouched.is (packed_refusal _ _ c.refusal_number.ensures (omega arith))

pub returns-in-Replied : goal.returns-in-Replied
returns-in-Replied c = said_case plain_said _ _ _ c.in-Replied.is c.pack_reply.ensures
