use Rattle.lists.proofs.Kit.{ℕ, refl, ap₂, ◌∙◌, arith, put_mid, mid_of}
use Rattle.working.proofs.PartLoadTables.{stands_as, table_loaded}
use Rattle.working.proofs.part_loading.load_table_part.Goals as goal

pub overflow_sub-run : goal.overflow_sub-run
overflow_sub-run c =
    let r = c.run_of-run in
    let n = c.count_of-count in
    (stands_as c.args.limits c.args.k c.requires.0 r.result n.result _ r.ensures.0 n.ensures refl).slots_count

pub overflow_sub-run-2 : goal.overflow_sub-run-2
overflow_sub-run-2 c =
    let r = c.run_of-run in
    let n = c.count_of-count in
    (stands_as c.args.limits c.args.k c.requires.0 r.result n.result _ r.ensures.0 n.ensures refl).heads_count

pub copy_run-requires : goal.copy_run-requires
copy_run-requires c =
    let r = c.run_of-run in
    let n = c.count_of-count in
    let f = stands_as c.args.limits c.args.k c.requires.0 r.result n.result _ r.ensures.0 n.ensures refl in
    (omega (arith, f.slots_count, r.ensures.2.slots, c.requires.1, c.requires.2.fits), omega (arith, f.heads_count, r.ensures.2.heads, c.requires.3, c.requires.4.fits))

pub copy_run-requires-2 : goal.copy_run-requires-2
copy_run-requires-2 c =
    let r = c.run_of-run in
    let n = c.count_of-count in
    let f = stands_as c.args.limits c.args.k c.requires.0 r.result n.result c.order_of.result r.ensures.0 n.ensures c.order_of.ensures in
    (omega (arith, f.slots, c.slots_end.ensures, c.requires.1, c.requires.2.fits), omega (arith, f.heads, c.heads_end.ensures, c.requires.3, c.requires.4.fits))

pub returns : goal.returns
returns c =
    let r = c.run_of-run in
    let n = c.count_of-count in
    let o = c.order_of in
    table_loaded c.args.limits c.args.area c.args.store.now c.args.k c.requires.0 (omega (arith, c.requires.3, c.requires.4.fits)) r.result n.result o.result c.args.work.now c.copy_run.new.dst c.load_rows.new.work c.copy_run-2.new.dst
    r.ensures.0 n.ensures o.ensures (omega (arith, c.requires.1, c.requires.2.fits)) c.copy_run.ensures c.load_rows.ensures
    (c.copy_run-2.ensures ∙ ap₂ (λ (i j : ℕ). put_mid i o.result c.load_rows.new.work (mid_of j o.result c.args.store.now)) c.slots_end.ensures c.heads_end.ensures)
