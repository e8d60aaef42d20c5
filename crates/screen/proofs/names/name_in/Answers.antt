use Rattle.lists.proofs.Kit.{sym, ◌∙◌, arith}
use Rattle.screen.proofs.NameLaws.{Here, here, Shown, named_beyond, found_fits, group_text, individual_text, named_zeros, named_hidden, named_text, named_empty, named_digits, named_group, named_individual}
use Rattle.screen.proofs.names.name_in.Goals as goal

pub returns-in_default : goal.returns-in_default
returns-in_default c =
    let k = c.slot_of in
    named_beyond c.args.limits c.args.store.now c.args.row k.result k.ensures c.in_default.is

pub slice_bounds-is_zeros-count : goal.slice_bounds-is_zeros-count
slice_bounds-is_zeros-count c =
    let slot_here : Here c.args.limits c.args.store.now c.args.row c.in-Some.slot = here c.requires c.slot_of.ensures c.in-Some.is in
    let f = found_fits slot_here in omega (arith, f.text_in, f.ends, f.inside)

pub slice_bounds-is_zeros-start : goal.slice_bounds-is_zeros-start
slice_bounds-is_zeros-start c =
    let slot_here : Here c.args.limits c.args.store.now c.args.row c.in-Some.slot = here c.requires c.slot_of.ensures c.in-Some.is in
    let f = found_fits slot_here in omega (arith, f.text_in, f.ends, f.inside)

pub slice_bounds-is_zeros-end : goal.slice_bounds-is_zeros-end
slice_bounds-is_zeros-end c =
    let slot_here : Here c.args.limits c.args.store.now c.args.row c.in-Some.slot = here c.requires c.slot_of.ensures c.in-Some.is in
    let f = found_fits slot_here in omega (arith, f.text_in, f.ends, f.inside)

pub returns-then-is_zeros : goal.returns-then-is_zeros
returns-then-is_zeros c =
    let slot_here : Here c.args.limits c.args.store.now c.args.row c.in-Some.slot = here c.requires c.slot_of.ensures c.in-Some.is in
    named_zeros slot_here (sym c.is_zeros.ensures ∙ c.if-is_zeros.true)

pub bounds-store-start : goal.bounds-store-start
bounds-store-start c =
    let slot_here : Here c.args.limits c.args.store.now c.args.row c.in-Some.slot = here c.requires c.slot_of.ensures c.in-Some.is in
    let f = found_fits slot_here in omega (arith, f.text_in, f.ends, f.inside)

pub returns-then-is_hidden : goal.returns-then-is_hidden
returns-then-is_hidden c =
    let slot_here : Here c.args.limits c.args.store.now c.args.row c.in-Some.slot = here c.requires c.slot_of.ensures c.in-Some.is in
    named_hidden slot_here (sym c.is_zeros.ensures ∙ c.if-is_zeros.false) (sym c.is_hidden.ensures ∙ c.if-is_hidden.true)

pub text_in-shown-requires : goal.text_in-shown-requires
text_in-shown-requires c =
    let slot_here : Here c.args.limits c.args.store.now c.args.row c.in-Some.slot = here c.requires c.slot_of.ensures c.in-Some.is in
    (c.requires, slot_here.is)

pub returns-then-bytes-ne0 : goal.returns-then-bytes-ne0
returns-then-bytes-ne0 c =
    let slot_here : Here c.args.limits c.args.store.now c.args.row c.in-Some.slot = here c.requires c.slot_of.ensures c.in-Some.is in
    let row_here : Shown c.args.limits c.args.store.now c.args.row c.in-Some.slot = record { found = slot_here; filled = sym c.is_zeros.ensures ∙ c.if-is_zeros.false; not_hidden = sym c.is_hidden.ensures ∙ c.if-is_hidden.false } in
    named_text row_here c.text_in-shown.result c.text_in-shown.ensures c.if-bytes-ne0.true

pub overflow_add-head : goal.overflow_add-head
overflow_add-head c =
    let slot_here : Here c.args.limits c.args.store.now c.args.row c.in-Some.slot = here c.requires c.slot_of.ensures c.in-Some.is in
    omega (arith, (found_fits slot_here).near, (found_fits slot_here).text_in, (found_fits slot_here).ends)

pub overflow_add-digits : goal.overflow_add-digits
overflow_add-digits c =
    let slot_here : Here c.args.limits c.args.store.now c.args.row c.in-Some.slot = here c.requires c.slot_of.ensures c.in-Some.is in
    omega (arith, (found_fits slot_here).near, (found_fits slot_here).text_in, (found_fits slot_here).ends)

pub slice_bounds-address_of-count : goal.slice_bounds-address_of-count
slice_bounds-address_of-count c =
    let slot_here : Here c.args.limits c.args.store.now c.args.row c.in-Some.slot = here c.requires c.slot_of.ensures c.in-Some.is in
    let f = found_fits slot_here in omega (arith, f.text_in, f.ends, f.inside, group_text slot_here c.in-Group.in-Group-own.keys2)

pub slice_bounds-address_of-start : goal.slice_bounds-address_of-start
slice_bounds-address_of-start c =
    let slot_here : Here c.args.limits c.args.store.now c.args.row c.in-Some.slot = here c.requires c.slot_of.ensures c.in-Some.is in
    let f = found_fits slot_here in omega (arith, f.text_in, f.ends, f.inside, group_text slot_here c.in-Group.in-Group-own.keys2)

pub slice_bounds-address_of-end : goal.slice_bounds-address_of-end
slice_bounds-address_of-end c =
    let slot_here : Here c.args.limits c.args.store.now c.args.row c.in-Some.slot = here c.requires c.slot_of.ensures c.in-Some.is in
    let f = found_fits slot_here in omega (arith, f.text_in, f.ends, f.inside, group_text slot_here c.in-Group.in-Group-own.keys2)

pub slice_bounds-address_of-count-in-Individual : goal.slice_bounds-address_of-count-in-Individual
slice_bounds-address_of-count-in-Individual c =
    let slot_here : Here c.args.limits c.args.store.now c.args.row c.in-Some.slot = here c.requires c.slot_of.ensures c.in-Some.is in
    let f = found_fits slot_here in omega (arith, f.text_in, f.ends, f.inside, individual_text slot_here c.in-Individual.in-Individual-own.keys3)

pub slice_bounds-address_of-start-in-Individual : goal.slice_bounds-address_of-start-in-Individual
slice_bounds-address_of-start-in-Individual c =
    let slot_here : Here c.args.limits c.args.store.now c.args.row c.in-Some.slot = here c.requires c.slot_of.ensures c.in-Some.is in
    let f = found_fits slot_here in omega (arith, f.text_in, f.ends, f.inside, individual_text slot_here c.in-Individual.in-Individual-own.keys3)

pub slice_bounds-address_of-end-in-Individual : goal.slice_bounds-address_of-end-in-Individual
slice_bounds-address_of-end-in-Individual c =
    let slot_here : Here c.args.limits c.args.store.now c.args.row c.in-Some.slot = here c.requires c.slot_of.ensures c.in-Some.is in
    let f = found_fits slot_here in omega (arith, f.text_in, f.ends, f.inside, individual_text slot_here c.in-Individual.in-Individual-own.keys3)

pub returns-in-Line : goal.returns-in-Line
returns-in-Line c =
    let slot_here : Here c.args.limits c.args.store.now c.args.row c.in-Some.slot = here c.requires c.slot_of.ensures c.in-Some.is in
    let row_here : Shown c.args.limits c.args.store.now c.args.row c.in-Some.slot = record { found = slot_here; filled = sym c.is_zeros.ensures ∙ c.if-is_zeros.false; not_hidden = sym c.is_hidden.ensures ∙ c.if-is_hidden.false } in
    named_digits row_here c.text_in-shown.result c.text_in-shown.ensures c.if-bytes-ne0.false c.in-Line.in-Line-own.keys1

pub returns-in-Group : goal.returns-in-Group
returns-in-Group c =
    let slot_here : Here c.args.limits c.args.store.now c.args.row c.in-Some.slot = here c.requires c.slot_of.ensures c.in-Some.is in
    let row_here : Shown c.args.limits c.args.store.now c.args.row c.in-Some.slot = record { found = slot_here; filled = sym c.is_zeros.ensures ∙ c.if-is_zeros.false; not_hidden = sym c.is_hidden.ensures ∙ c.if-is_hidden.false } in
    let t = c.text_in-shown in
    named_group row_here t.result t.ensures c.if-bytes-ne0.false c.address_of.result c.address_of.ensures c.in-Group.in-Group-own.keys2

pub returns-in-Individual : goal.returns-in-Individual
returns-in-Individual c =
    let slot_here : Here c.args.limits c.args.store.now c.args.row c.in-Some.slot = here c.requires c.slot_of.ensures c.in-Some.is in
    let row_here : Shown c.args.limits c.args.store.now c.args.row c.in-Some.slot = record { found = slot_here; filled = sym c.is_zeros.ensures ∙ c.if-is_zeros.false; not_hidden = sym c.is_hidden.ensures ∙ c.if-is_hidden.false } in
    let t = c.text_in-shown in
    named_individual row_here t.result t.ensures c.if-bytes-ne0.false c.address_of-in-Individual.result c.address_of-in-Individual.ensures c.in-Individual.in-Individual-own.keys3

pub returns-in_default-row : goal.returns-in_default-row
returns-in_default-row c =
    let slot_here : Here c.args.limits c.args.store.now c.args.row c.in-Some.slot = here c.requires c.slot_of.ensures c.in-Some.is in
    let row_here : Shown c.args.limits c.args.store.now c.args.row c.in-Some.slot = record { found = slot_here; filled = sym c.is_zeros.ensures ∙ c.if-is_zeros.false; not_hidden = sym c.is_hidden.ensures ∙ c.if-is_hidden.false } in
    named_empty row_here c.text_in-shown.result c.text_in-shown.ensures c.if-bytes-ne0.false c.in_default-row.in_default-row-own.keys4
