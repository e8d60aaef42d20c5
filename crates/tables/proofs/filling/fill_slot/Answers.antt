use Rattle.lists.proofs.Kit.{rules, arith}
use Rattle.tables.proofs.FillLaws.{slot_narrow, slot_filled}
use Rattle.tables.proofs.filling.fill_slot.Goals as goal

pub returns-then-slot-n : goal.returns-then-slot-n
returns-then-slot-n c =
    let a = c.args in
    slot_narrow a.m.now a.text a.head.now a.slot.now (omega arith) a.slot.now

pub returns : goal.returns
returns c =
    let a = c.args in
    let d = c.copy in
    let y = c.put_text in
    slot_filled a.m.now a.text a.head.now a.slot.now d.new.dst y.new.dst d.ensures y.ensures
