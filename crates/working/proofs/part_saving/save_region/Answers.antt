use Rattle.lists.proofs.Kit.{arith}
use Rattle.working.proofs.PartSaveTables.{bounded_count, bounded_as, region_saved}
use Rattle.working.proofs.part_saving.save_region.Goals as goal

pub overflow_sub-to : goal.overflow_sub-to
overflow_sub-to c = (bounded_count c.args.limits c.args.k c.run_of-run.result c.count_of-lead.result (omega arith) c.run_of-run.ensures.0 c.count_of-lead.ensures).0

pub overflow_sub-from : goal.overflow_sub-from
overflow_sub-from c = (bounded_count c.args.limits c.args.k c.run_of-run.result c.count_of-lead.result (omega arith) c.run_of-run.ensures.0 c.count_of-lead.ensures).1

pub copy_run-requires : goal.copy_run-requires
copy_run-requires c =
    let r = c.run_of-run in
    let b = bounded_count c.args.limits c.args.k r.result c.count_of-lead.result (omega arith) r.ensures.0 c.count_of-lead.ensures in
    let p = c.requires in
    let i = r.ensures.2 in
    (omega (arith, b.0, i.heads, p.1), omega (arith, b.1, i.slots, p.2, p.3.fits))

pub save_run-requires : goal.save_run-requires
save_run-requires c =
    let r = c.run_of-run in
    let p = c.requires in
    let i = r.ensures.2 in
    (r.ensures.1, omega (arith, i.heads, p.1), omega (arith, i.slots, p.2, p.3.fits))

pub heads_end-heads-requires : goal.heads_end-heads-requires
heads_end-heads-requires c = c.run_of-run.ensures.1

pub slots_end-slots-requires : goal.slots_end-slots-requires
slots_end-slots-requires c = c.run_of-run.ensures.1

pub copy_run-requires-2 : goal.copy_run-requires-2
copy_run-requires-2 c =
    let p = c.requires in
    let b = bounded_as c.args.limits c.args.k c.run_of-run.result c.count_of-lead.result c.order_of-order.result (omega arith) c.run_of-run.ensures.0 c.count_of-lead.ensures c.order_of-order.ensures in
    (omega (arith, b.heads, c.heads_end-heads.ensures, p.1), omega (arith, b.slots, c.slots_end-slots.ensures, p.2, p.3.fits))

pub returns : goal.returns
returns c =
    let p = c.requires in
    let a = c.args in
    region_saved a.limits a.k c.run_of-run.result c.count_of-lead.result c.order_of-order.result (omega arith) c.run_of-run.ensures.0 c.count_of-lead.ensures c.order_of-order.ensures a.store.now a.work.now p.1 (omega (arith, p.2, p.3.fits))
    c.copy_run.new.dst c.save_run.new.store c.copy_run-2.new.dst c.heads_end-heads.result c.slots_end-slots.result c.heads_end-heads.ensures c.slots_end-slots.ensures c.copy_run.ensures c.save_run.ensures c.copy_run-2.ensures
