use Rattle.lists.proofs.Kit.{arith}
use Rattle.screen.proofs.NameLaws.{Here, found_fits}
use Rattle.screen.proofs.TextPlaces.{text_placed, text_in_heads, text_shared}
use Rattle.screen.proofs.names.text_in.Goals as goal

pub slice_bounds-used-count : goal.slice_bounds-used-count
slice_bounds-used-count c =
    let slot_here : Here c.args.limits c.args.store.now c.args.row c.args.slot = record { store = c.requires.0; is = c.requires.1 } in
    omega (arith, (found_fits slot_here).ends)

pub slice_bounds-used-start : goal.slice_bounds-used-start
slice_bounds-used-start c =
    let slot_here : Here c.args.limits c.args.store.now c.args.row c.args.slot = record { store = c.requires.0; is = c.requires.1 } in
    omega (arith, (found_fits slot_here).ends)

pub slice_bounds-used-end : goal.slice_bounds-used-end
slice_bounds-used-end c =
    let slot_here : Here c.args.limits c.args.store.now c.args.row c.args.slot = record { store = c.requires.0; is = c.requires.1 } in
    omega (arith, (found_fits slot_here).inside)

pub shared_text-requires : goal.shared_text-requires
shared_text-requires c =
    let slot_here : Here c.args.limits c.args.store.now c.args.row c.args.slot = record { store = c.requires.0; is = c.requires.1 } in
    let s = c in
    let a = c.args in
    let f = found_fits slot_here in
    (text_in_heads a.limits a.store.now c.requires.0 a.row a.slot c.requires.1 c.spot_of.result c.spot_of.ensures _ c.in-Shared.is, omega (arith, f.ends, f.inside))

pub returns-in-Placed : goal.returns-in-Placed
returns-in-Placed c =
    let a = c.args in
    text_placed a.limits a.store.now c.requires.0 a.row a.slot c.requires.1 c.used-bytes.result c.in-Placed.is c.used-bytes.ensures

pub returns-in-Shared : goal.returns-in-Shared
returns-in-Shared c =
    let a = c.args in
    text_shared a.limits a.store.now c.requires.0 a.row a.slot c.requires.1 c.spot_of.result c.spot_of.ensures c.shared_text.result c.shared_text.ensures _ c.in-Shared.is
