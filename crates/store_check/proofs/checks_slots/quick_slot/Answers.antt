use Rattle.lists.proofs.Kit.{rules}
use Rattle.tables.proofs.AnswerLaws.{turned}
use Rattle.store_check.proofs.SlotChecks.{quick_slot as quick-slot-is}
use Rattle.store_check.proofs.checks_slots.quick_slot.Goals as goal

pub returns : goal.returns
returns c =
    let a = c.args in
    let t = quick-slot-is a.form a.s.now in
    turned c.text_ok.result c.text_ok.ensures t.0 t.1
