use Rattle.lists.proofs.Kit.{arith}
use Rattle.working.specs.Areas.{InHeads}
use Rattle.working.proofs.PartLoadTables.{rows_refused, rows_ask, rows_loaded}
use Rattle.working.proofs.part_loading.load_rows.Goals as goal

pub returns-then-area-place : goal.returns-then-area-place
returns-then-area-place c =
    let a = c.args in
    let r = c.run_of-run in
    let n = c.units_before-place in
    let m = c.run_units-bytes in
    let i : InHeads a.limits a.store.now a.k 0 = record { few_channels = c.requires.4.few_channels; few_lines = c.requires.4.few_lines; heads = omega (arith, c.requires.4.fits, c.requires.3); table = c.requires.0; place = omega arith } in
    rows_refused a.limits a.area a.store.now a.k c.requires.0 r.result r.ensures.0 n.result m.result (n.ensures.1 i) m.ensures.0 a.work.now _ (omega arith)

pub load_run-requires : goal.load_run-requires
load_run-requires c =
    let a = c.args in
    let r = c.run_of-run in
    let n = c.units_before-place in
    let m = c.run_units-bytes in
    let i : InHeads a.limits a.store.now a.k 0 = record { few_channels = c.requires.4.few_channels; few_lines = c.requires.4.few_lines; heads = omega (arith, c.requires.4.fits, c.requires.3); table = c.requires.0; place = omega arith } in
    let h = c.heads_size-heads in
    (r.ensures.1, omega (arith, r.ensures.2.slots, c.requires.1, c.requires.2.fits), omega (arith, r.ensures.2.heads, c.requires.3, c.requires.4.fits), rows_ask a.limits a.area a.store.now a.k c.requires.0 r.result r.ensures.0 n.result m.result (n.ensures.1 i) m.ensures.0 h.result h.ensures (omega (arith, h.ensures, c.requires.3, c.requires.4.fits)) (omega arith))

pub returns : goal.returns
returns c =
    let a = c.args in
    let r = c.run_of-run in
    let n = c.units_before-place in
    let m = c.run_units-bytes in
    let i : InHeads a.limits a.store.now a.k 0 = record { few_channels = c.requires.4.few_channels; few_lines = c.requires.4.few_lines; heads = omega (arith, c.requires.4.fits, c.requires.3); table = c.requires.0; place = omega arith } in
    let h = c.heads_size-heads in
    rows_loaded a.limits a.area a.store.now a.k c.requires.0 r.result r.ensures.0 n.result m.result (n.ensures.1 i) m.ensures.0 h.result h.ensures (omega (arith, h.ensures, c.requires.3, c.requires.4.fits)) a.work.now c.load_run.new.work c.load_run.ensures.1
