use Rattle.lists.proofs.Kit.{arith, refl, inl, inr}
use Rattle.tables.specs.Store.{StoreOf}
use Rattle.tables.proofs.AnswerLaws.{not_said, was_said}
use Rattle.values.proofs.DigitLaws.{digits_none, digits_there}
use Rattle.values.proofs.EntryLaws.{SlotIn, slot_in}
use Rattle.values.proofs.digits.digits_in.Goals as goal

-- the bytes are a store
-- the slot that was found for the row
pub returns-then-buffer-lt-MOST : goal.returns-then-buffer-lt-MOST
returns-then-buffer-lt-MOST c = inl (omega (arith, c.if-buffer-lt-MOST.true), refl)

pub returns-then-not-is_store : goal.returns-then-not-is_store
returns-then-not-is_store c = inr (λ h. omega (arith, c.if-buffer-lt-MOST.false), inl (not_said c.is_store.result c.is_store.ensures c.if-not-is_store.true-raw, refl))

pub filled_slot-requires : goal.filled_slot-requires
filled_slot-requires c =
    let store_here : StoreOf c.args.limits c.args.store.now = was_said c.is_store.result c.is_store.ensures c.if-not-is_store.false-raw in
    store_here

pub returns-in_default : goal.returns-in_default
returns-in_default c =
    let store_here : StoreOf c.args.limits c.args.store.now = was_said c.is_store.result c.is_store.ensures c.if-not-is_store.false-raw in
    let a = c.args in
    let f = c.filled_slot in
    digits_none a.row a.buffer.now (omega (arith, c.if-buffer-lt-MOST.false)) store_here f.result f.ensures c.in_default.is

pub slice_bounds-digits_of-count : goal.slice_bounds-digits_of-count
slice_bounds-digits_of-count c =
    let slot_here : SlotIn c.args.store.now c.args.row c.in-Some.slot = slot_in c.args.limits c.args.store.now c.args.row c.in-Some.slot c.filled_slot.ensures c.in-Some.is in
    let f = slot_here in omega (arith, f.own, f.inside)

pub slice_bounds-digits_of-start : goal.slice_bounds-digits_of-start
slice_bounds-digits_of-start c =
    let slot_here : SlotIn c.args.store.now c.args.row c.in-Some.slot = slot_in c.args.limits c.args.store.now c.args.row c.in-Some.slot c.filled_slot.ensures c.in-Some.is in
    let f = slot_here in omega (arith, f.own, f.inside)

pub slice_bounds-digits_of-end : goal.slice_bounds-digits_of-end
slice_bounds-digits_of-end c =
    let slot_here : SlotIn c.args.store.now c.args.row c.in-Some.slot = slot_in c.args.limits c.args.store.now c.args.row c.in-Some.slot c.filled_slot.ensures c.in-Some.is in
    let f = slot_here in omega (arith, f.own, f.inside)

pub digits_of-requires : goal.digits_of-requires
digits_of-requires c =
    let slot_here : SlotIn c.args.store.now c.args.row c.in-Some.slot = slot_in c.args.limits c.args.store.now c.args.row c.in-Some.slot c.filled_slot.ensures c.in-Some.is in
    (slot_here.many, omega (arith, c.if-buffer-lt-MOST.false))

pub returns : goal.returns
returns c =
    let store_here : StoreOf c.args.limits c.args.store.now = was_said c.is_store.result c.is_store.ensures c.if-not-is_store.false-raw in
    let a = c.args in
    let f = c.filled_slot in
    let d = c.digits_of in
    digits_there a.row a.buffer.now (omega (arith, c.if-buffer-lt-MOST.false)) store_here f.result f.ensures c.in-Some.slot c.in-Some.is d.result d.new.buffer d.ensures
