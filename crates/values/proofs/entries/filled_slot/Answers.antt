use Rattle.lists.proofs.Kit.{arith, sym, ◌∙◌}
use Rattle.screen.proofs.NameLaws.{Here, here, found_fits}
use Rattle.values.proofs.EntryLaws.{filled_beyond, filled_gone, filled_here}
use Rattle.values.proofs.entries.filled_slot.Goals as goal

pub returns-in_default : goal.returns-in_default
returns-in_default c = filled_beyond c.args.limits c.args.store.now c.args.row c.row_slot.result (c.row_slot.ensures c.requires.roomy) c.in_default.is

pub slice_bounds-is_zeros-count : goal.slice_bounds-is_zeros-count
slice_bounds-is_zeros-count c =
    let slot_here : Here c.args.limits c.args.store.now c.args.row c.in-Some.slot = here c.requires (c.row_slot.ensures c.requires.roomy) c.in-Some.is in
    let f = found_fits slot_here in omega (arith, f.text_in, f.ends, f.inside)

pub slice_bounds-is_zeros-start : goal.slice_bounds-is_zeros-start
slice_bounds-is_zeros-start c =
    let slot_here : Here c.args.limits c.args.store.now c.args.row c.in-Some.slot = here c.requires (c.row_slot.ensures c.requires.roomy) c.in-Some.is in
    let f = found_fits slot_here in omega (arith, f.text_in, f.ends, f.inside)

pub slice_bounds-is_zeros-end : goal.slice_bounds-is_zeros-end
slice_bounds-is_zeros-end c =
    let slot_here : Here c.args.limits c.args.store.now c.args.row c.in-Some.slot = here c.requires (c.row_slot.ensures c.requires.roomy) c.in-Some.is in
    let f = found_fits slot_here in omega (arith, f.text_in, f.ends, f.inside)

pub returns-then-is_zeros : goal.returns-then-is_zeros
returns-then-is_zeros c =
    let slot_here : Here c.args.limits c.args.store.now c.args.row c.in-Some.slot = here c.requires (c.row_slot.ensures c.requires.roomy) c.in-Some.is in
    filled_gone slot_here (sym c.is_zeros.ensures ∙ c.if-is_zeros.true)

pub returns : goal.returns
returns c =
    let slot_here : Here c.args.limits c.args.store.now c.args.row c.in-Some.slot = here c.requires (c.row_slot.ensures c.requires.roomy) c.in-Some.is in
    filled_here slot_here (sym c.is_zeros.ensures ∙ c.if-is_zeros.false)
