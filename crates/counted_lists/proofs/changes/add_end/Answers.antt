use Rattle.lists.proofs.Kit.{arith}
use Rattle.slots.proofs.Tables.{slot_copied}
use Rattle.counted_lists.proofs.ListLaws.{added_full, added_room}
use Rattle.counted_lists.proofs.changes.add_end.Goals as goal

-- `counted_lists::changes::add_end` meets its contract. Assumes nothing.
pub returns-then-part-at : goal.returns-then-part-at
returns-then-part-at c =
    let a = c.args in
    added_full a.w a.slot.now a.part.now c.in-Some.at c.in-Some.ensures c.if-part-at.true

pub returns : goal.returns
returns c =
    let a = c.args in
    let m = c.count-n in
    let y = c.copy in
    let t = c.set_count in
    let e = c.in-Some.ensures in
    let z = slot_copied a.part.now a.slot.now y.new.dst c.in-Some.at a.w (omega (arith, e.within)) c.if-slot-w.false y.ensures in
    added_room a.w a.slot.now a.part.now c.in-Some.at e m.result y.new.dst t.new.part m.ensures c.if-slot-w.false c.if-part-at.false z t.ensures
