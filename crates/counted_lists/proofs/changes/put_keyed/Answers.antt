use Rattle.lists.proofs.Kit.{arith, ◌+◌}
use Rattle.slots.proofs.Tables.{slot_copied}
use Rattle.counted_lists.proofs.ListLaws.{put_new, put_found}
use Rattle.counted_lists.proofs.changes.put_keyed.Goals as goal

-- `counted_lists::changes::put_keyed` meets its contract. Assumes nothing.
pub returns-then-end-at : goal.returns-then-end-at
returns-then-end-at c =
    let a = c.args in
    let f = c.find_key-at in
    let y = c.add_end in
    put_new a.w a.o a.k a.slot.now a.part.now c.in-Some.end f.result c.in-Some.ensures f.ensures y.new.part y.result c.if-end-at.true y.ensures

pub returns : goal.returns
returns c =
    let a = c.args in
    let f = c.find_key-at in
    let y = c.copy in
    let e = c.in-Some.ensures in
    let z = slot_copied a.part.now a.slot.now y.new.dst (f.result + 2) a.w (omega (arith, e.within)) (omega arith) y.ensures in
    put_found a.w a.o a.k a.slot.now a.part.now c.in-Some.end f.result e f.ensures y.new.dst c.if-end-at.false z
