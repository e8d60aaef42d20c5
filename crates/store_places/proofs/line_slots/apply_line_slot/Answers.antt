use Rattle.lists.proofs.Kit.{rules}
use Rattle.store_places.proofs.LineSlotLaws.{line_slot_set}
use Rattle.store_places.proofs.line_slots.apply_line_slot.Goals as goal

pub returns : goal.returns
returns c =
    let a = c.args in
    let h = c.line_head-head in
    let y = c.set_place in
    line_slot_set a.m.now a.operation a.flags a.place a.region.now y.new.region h.result h.ensures y.ensures
