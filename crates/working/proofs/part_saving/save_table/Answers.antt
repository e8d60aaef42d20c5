use Rattle.lists.proofs.Kit.{rules, arith}
use Rattle.working.proofs.PartSaveTables.{counts_of, counts_rise, no_area, no_spare, join_asks, table_saved}
use Rattle.working.proofs.part_saving.save_table.Goals as goal

pub run_units-own-requires : goal.run_units-own-requires
run_units-own-requires c = (c.run_of-run.ensures.1, omega (arith, c.run_of-run.ensures.2.heads, c.requires.1, c.requires.2.fits), omega arith)

pub returns-then-area-total : goal.returns-then-area-total
returns-then-area-total c =
    let a = c.args in
    no_area a.limits a.area a.k a.store.now a.work.now _ _ _ _ (counts_of c.args.limits c.args.store.now c.args.k c.units_to-before.result c.run_units-own.result c.all_units-total.result c.run_of-run.result c.run_of-run.ensures.0 c.units_to-before.ensures.0 c.run_units-own.ensures.0 c.all_units-total.ensures.0) c.if-area-total.true

pub overflow_sub-n : goal.overflow_sub-n
overflow_sub-n c =
    let u = counts_of c.args.limits c.args.store.now c.args.k c.units_to-before.result c.run_units-own.result c.all_units-total.result c.run_of-run.result c.run_of-run.ensures.0 c.units_to-before.ensures.0 c.run_units-own.ensures.0 c.all_units-total.ensures.0 in
    omega (arith, (counts_rise u c.requires.0).1)

pub returns-then-work-spare : goal.returns-then-work-spare
returns-then-work-spare c =
    let a = c.args in
    let p = c.requires in
    no_spare a.limits a.area a.k a.store.now a.work.now _ _ _ _ (counts_of c.args.limits c.args.store.now c.args.k c.units_to-before.result c.run_units-own.result c.all_units-total.result c.run_of-run.result c.run_of-run.ensures.0 c.units_to-before.ensures.0 c.run_units-own.ensures.0 c.all_units-total.ensures.0) _ c.used_size-spare.result p.3 c.used_size-spare.ensures c.if-area-total.false c.if-work-spare.true

pub save_region-requires : goal.save_region-requires
save_region-requires c = let p = c.requires in (p.0, omega (arith, p.1, p.2.fits), p.3, p.4)

pub join_texts-requires : goal.join_texts-requires
join_texts-requires c =
    let a = c.args in
    let p = c.requires in
    let r = c.run_of-run in
    join_asks (counts_of c.args.limits c.args.store.now c.args.k c.units_to-before.result c.run_units-own.result c.all_units-total.result c.run_of-run.result c.run_of-run.ensures.0 c.units_to-before.ensures.0 c.run_units-own.ensures.0 c.all_units-total.ensures.0) p.0 a.area c.heads_size-start.result c.used_size-spare.result r.result c.save_region.new.store a.work.now r.ensures.1 r.ensures.2 c.used_size-spare.ensures (omega (arith, c.used_size-spare.ensures, p.3, p.4.fits)) c.heads_size-start.ensures (omega (arith, c.heads_size-start.ensures, p.1, p.2.fits))
    c.if-area-total.false c.if-work-spare.false

pub returns : goal.returns
returns c =
    let a = c.args in
    let p = c.requires in
    let r = c.run_of-run in
    let h = c.heads_size-start in
    let j = c.join_texts in
    table_saved a.limits a.area a.k r.result r.ensures.0 p.0 a.store.now a.work.now c.save_region.new.store j.new.area _ _ _ h.result (counts_of c.args.limits c.args.store.now c.args.k c.units_to-before.result c.run_units-own.result c.all_units-total.result c.run_of-run.result c.run_of-run.ensures.0 c.units_to-before.ensures.0 c.run_units-own.ensures.0 c.all_units-total.ensures.0)
    h.ensures (omega (arith, h.ensures, p.1, p.2.fits)) (search rules) (omega (arith, p.3, p.4.fits)) c.save_region.ensures j.ensures
