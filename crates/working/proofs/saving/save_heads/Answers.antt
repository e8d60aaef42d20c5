use Rattle.lists.proofs.Kit.{arith}
use Rattle.working.proofs.SaveLaws.{heading_start, heading_slot, heading_room, heading_fits, heading_units, heading_more, heading_end}
use Rattle.working.proofs.SlotLaws.{slot_whole}
use Rattle.working.proofs.saving.save_heads.Goals as goal

pub loop-i-init : goal.loop-i-init
loop-i-init c = let p = c.requires in heading_start _ _ _ _ _ p.0 p.1 p.2 p.3

pub overflow_add-text : goal.overflow_add-text
overflow_add-text c = omega (arith, heading_slot c.loop-i.invariant (omega arith))

pub overflow_add-next : goal.overflow_add-next
overflow_add-next c = omega (arith, heading_slot c.loop-i.invariant (omega arith))

pub slice_bounds-text_bytes-end : goal.slice_bounds-text_bytes-end
slice_bounds-text_bytes-end c = omega (arith, heading_slot c.loop-i.invariant (omega arith))

pub text_bytes-bytes-requires : goal.text_bytes-bytes-requires
text_bytes-bytes-requires c =
    let a = c.args in
    let l = c.loop-i in
    slot_whole a.slots.now a.run.own a.run.room l.to l.invariant.whole (heading_slot l.invariant (omega arith))

pub overflow_cast-units : goal.overflow_cast-units
overflow_cast-units c = omega (arith, heading_units c.loop-i.invariant (omega arith) c.text_bytes-bytes.result c.text_bytes-bytes.ensures)

pub overflow_add-last : goal.overflow_add-last
overflow_add-last c = omega (arith, heading_room c.loop-i.invariant (omega arith))

pub overflow_add-after : goal.overflow_add-after
overflow_add-after c = omega (arith, heading_room c.loop-i.invariant (omega arith))

pub slice_bounds-save_head-end : goal.slice_bounds-save_head-end
slice_bounds-save_head-end c = omega (arith, heading_room c.loop-i.invariant (omega arith))

pub slice_bounds-save_head-end-in-loop-i : goal.slice_bounds-save_head-end-in-loop-i
slice_bounds-save_head-end-in-loop-i c = omega (arith, heading_slot c.loop-i.invariant (omega arith))

pub save_head-requires : goal.save_head-requires
save_head-requires c = heading_fits c.loop-i.invariant (omega arith)

pub loop-i-preserved : goal.loop-i-preserved
loop-i-preserved c = heading_more c.loop-i.invariant (omega arith) c.text_bytes-bytes.result c.text_bytes-bytes.ensures c.save_head.new.head c.save_head.ensures

pub shape_of-heads : goal.shape_of-heads
shape_of-heads c = omega (arith, c.loop-i.invariant.long, c.requires.0)

pub returns : goal.returns
returns c = heading_end c.loop-i.invariant (omega arith)
