use Rattle.lists.proofs.Kit.{refl, rules, arith}
use Rattle.working.proofs.LoadLaws.{load_start, load_room, load_head, load_text, load_asks, load_more, load_end}
use Rattle.working.proofs.loading.load_table.Goals as goal

pub loop-i-init : goal.loop-i-init
loop-i-init c = load_start _ _ _ _ _ _ _ _ refl c.requires.1

pub overflow_add-last : goal.overflow_add-last
overflow_add-last c = omega (arith, load_head c.loop-i.invariant (omega arith) c.requires.0)

pub bounds-heads-last : goal.bounds-heads-last
bounds-heads-last c = load_head c.loop-i.invariant (omega arith) c.requires.0

pub load_slot-requires : goal.load_slot-requires
load_slot-requires c =
    load_asks c.loop-i.invariant c.wide-bytes.result (omega arith) c.requires.0 c.requires.2 c.wide-bytes.ensures.0

pub overflow_add-place : goal.overflow_add-place
overflow_add-place c = omega (arith, load_text c.loop-i.invariant (omega arith) c.requires.2)

pub overflow_add-at : goal.overflow_add-at
overflow_add-at c = omega (arith, load_head c.loop-i.invariant (omega arith) c.requires.0)

pub overflow_add-to : goal.overflow_add-to
overflow_add-to c = omega (arith, load_room c.loop-i.invariant (omega arith))

pub loop-i-preserved : goal.loop-i-preserved
loop-i-preserved c = load_more c.loop-i.invariant c.wide-bytes.result c.load_slot.new.slots (omega arith) c.wide-bytes.ensures.0 (search rules) c.load_slot.ensures

pub shape_of-slots : goal.shape_of-slots
shape_of-slots c = omega (arith, c.loop-i.invariant.long, c.requires.1)

pub returns : goal.returns
returns c = load_end c.loop-i.invariant (omega arith)
