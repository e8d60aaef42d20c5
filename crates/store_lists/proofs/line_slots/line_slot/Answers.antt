use Rattle.lists.proofs.Kit.{rules}
use Rattle.store_lists.proofs.LineLaws.{slot_made}
use Rattle.store_lists.proofs.line_slots.line_slot.Goals as goal

pub returns : goal.returns
returns c =
    let a = c.args in
    let h = c.line_head-head in
    let y = c.fill_slot in
    slot_made a.m.now a.flags a.place h.result y.new.slot h.ensures y.ensures
