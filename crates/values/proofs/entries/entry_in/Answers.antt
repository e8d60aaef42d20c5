use Rattle.lists.proofs.Kit.{arith, refl, inl}
use Rattle.tables.specs.Store.{StoreOf}
use Rattle.tables.proofs.AnswerLaws.{not_said, was_said}
use Rattle.values.proofs.EntryLaws.{SlotIn, slot_in, entry_none, entry_there}
use Rattle.values.proofs.entries.entry_in.Goals as goal

pub returns-then-not-is_store : goal.returns-then-not-is_store
returns-then-not-is_store c = inl (not_said c.is_store.result c.is_store.ensures c.if-not-is_store.true-raw, refl)

pub filled_slot-requires : goal.filled_slot-requires
filled_slot-requires c =
    let store_here : StoreOf c.args.limits c.args.store.now = was_said c.is_store.result c.is_store.ensures c.if-not-is_store.false-raw in
    store_here

pub returns-in_default : goal.returns-in_default
returns-in_default c =
    let store_here : StoreOf c.args.limits c.args.store.now = was_said c.is_store.result c.is_store.ensures c.if-not-is_store.false-raw in
    entry_none c.args.row store_here c.filled_slot.result c.filled_slot.ensures c.in_default.is

pub slice_bounds-target_of-count : goal.slice_bounds-target_of-count
slice_bounds-target_of-count c =
    let slot_here : SlotIn c.args.store.now c.args.row c.in-Some.slot = slot_in c.args.limits c.args.store.now c.args.row c.in-Some.slot c.filled_slot.ensures c.in-Some.is in
    let f = slot_here in omega (arith, f.own, f.inside)

pub slice_bounds-target_of-start : goal.slice_bounds-target_of-start
slice_bounds-target_of-start c =
    let slot_here : SlotIn c.args.store.now c.args.row c.in-Some.slot = slot_in c.args.limits c.args.store.now c.args.row c.in-Some.slot c.filled_slot.ensures c.in-Some.is in
    let f = slot_here in omega (arith, f.own, f.inside)

pub slice_bounds-target_of-end : goal.slice_bounds-target_of-end
slice_bounds-target_of-end c =
    let slot_here : SlotIn c.args.store.now c.args.row c.in-Some.slot = slot_in c.args.limits c.args.store.now c.args.row c.in-Some.slot c.filled_slot.ensures c.in-Some.is in
    let f = slot_here in omega (arith, f.own, f.inside)

pub target_of-requires : goal.target_of-requires
target_of-requires c =
    let slot_here : SlotIn c.args.store.now c.args.row c.in-Some.slot = slot_in c.args.limits c.args.store.now c.args.row c.in-Some.slot c.filled_slot.ensures c.in-Some.is in
    slot_here.many

pub returns : goal.returns
returns c =
    let store_here : StoreOf c.args.limits c.args.store.now = was_said c.is_store.result c.is_store.ensures c.if-not-is_store.false-raw in
    let f = c.filled_slot in
    entry_there c.args.row store_here f.result f.ensures c.in-Some.slot c.in-Some.is c.target_of.result c.target_of.ensures
