use Rattle.lists.proofs.Kit.{arith}
use Rattle.working.proofs.SaveLaws.{walking_start, walking_slot, walking_room, walking_more, texting_start, texting_room, texting_more, texting_end}
use Rattle.working.proofs.SlotLaws.{slot_whole}
use Rattle.working.proofs.saving.save_texts.Goals as goal

pub loop-i-init : goal.loop-i-init
loop-i-init c = let p = c.requires in (walking_start _ _ _ _ _ _ p.0 p.1 p.2, λ h. texting_start _ _ _ _ _ _ p.0 h p.2)

pub overflow_add-text : goal.overflow_add-text
overflow_add-text c = omega (arith, walking_slot c.loop-i.invariant.0 (omega arith))

pub overflow_add-next : goal.overflow_add-next
overflow_add-next c = omega (arith, walking_slot c.loop-i.invariant.0 (omega arith))

pub slice_bounds-text_bytes-end : goal.slice_bounds-text_bytes-end
slice_bounds-text_bytes-end c = omega (arith, walking_slot c.loop-i.invariant.0 (omega arith))

pub text_bytes-bytes-requires : goal.text_bytes-bytes-requires
text_bytes-bytes-requires c =
    let a = c.args in
    let l = c.loop-i in
    slot_whole a.slots.now a.run.own a.run.room l.to l.invariant.0.whole (walking_slot l.invariant.0 (omega arith))

pub overflow_sub-area : goal.overflow_sub-area
overflow_sub-area c = let v = c.loop-i.invariant.0 in omega (arith, v.long, v.room_is)

pub shape_of-area-then-area-place : goal.shape_of-area-then-area-place
shape_of-area-then-area-place c = c.loop-i.invariant.0.long

pub returns-then-area-place : goal.returns-then-area-place
returns-then-area-place c =
    let l = c.loop-i in
    let u = c.text_bytes-bytes in
    (l.invariant.0.room_is, λ h. absurd (omega (arith, (texting_room (l.invariant.1 h) (omega arith) u.result u.ensures).0)))

pub copy_run-requires : goal.copy_run-requires
copy_run-requires c =
    let v = c.loop-i.invariant.0 in
    let u = c.text_bytes-bytes in
    walking_room v (omega arith) u.result u.ensures (omega (arith, v.long, v.room_is))

pub overflow_add-place : goal.overflow_add-place
overflow_add-place c = let v = c.loop-i.invariant.0 in omega (arith, v.long, v.room_is)

pub loop-i-preserved : goal.loop-i-preserved
loop-i-preserved c =
    let l = c.loop-i in
    let v = l.invariant.0 in
    let u = c.text_bytes-bytes in
    let w = c.copy_run in (
      walking_more v (omega arith) u.result u.ensures (omega (arith, v.long, v.room_is)) w.new.dst w.ensures,
      λ h. texting_more (l.invariant.1 h) (omega arith) u.result u.ensures w.new.dst w.ensures,
    )

pub shape_of-area : goal.shape_of-area
shape_of-area c = c.loop-i.invariant.0.long

pub returns : goal.returns
returns c = let v = c.loop-i.invariant in (v.0.room_is, λ h. texting_end (v.1 h) (omega arith))
