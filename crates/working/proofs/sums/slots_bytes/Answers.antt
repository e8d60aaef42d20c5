use Rattle.lists.proofs.Kit.{arith}
use Rattle.working.proofs.CountLaws.{count_start, count_slot, count_more, count_end}
use Rattle.working.proofs.SlotLaws.{slot_whole}
use Rattle.working.proofs.sums.slots_bytes.Goals as goal

pub loop-i-init : goal.loop-i-init
loop-i-init c = let p = c.requires in count_start _ _ _ _ p.0 p.1 p.3

pub overflow_add-text : goal.overflow_add-text
overflow_add-text c = omega (arith, count_slot c.loop-i.invariant (omega arith))

pub overflow_add-next : goal.overflow_add-next
overflow_add-next c = omega (arith, count_slot c.loop-i.invariant (omega arith))

pub slice_bounds-text_bytes-end : goal.slice_bounds-text_bytes-end
slice_bounds-text_bytes-end c = omega (arith, count_slot c.loop-i.invariant (omega arith))

pub text_bytes-sum-requires : goal.text_bytes-sum-requires
text_bytes-sum-requires c =
    let a = c.args in
    let l = c.loop-i in
    slot_whole a.slots.now a.run.own a.run.room l.at l.invariant.whole (count_slot l.invariant (omega arith))

pub loop-i-preserved : goal.loop-i-preserved
loop-i-preserved c = count_more c.loop-i.invariant c.text_bytes-sum.result (omega arith) c.text_bytes-sum.ensures

pub returns : goal.returns
returns c = count_end c.loop-i.invariant (omega arith)
