use Rattle.lists.proofs.Kit.{arith}
use Rattle.working.proofs.WholeLaws.{lines_end, tail_loaded}
use Rattle.working.proofs.loading.load_tail.Goals as goal

pub copy_run-requires : goal.copy_run-requires
copy_run-requires c =
    let (to, from) = lines_end c.args.limits c.run_of-run.result c.slots_end-slots.result c.heads_end-heads.result c.run_of-run.ensures.0 c.slots_end-slots.ensures c.heads_end-heads.ensures in
    (omega (arith, to, c.requires.0, c.requires.1.fits), omega (arith, from, c.requires.2))

pub slice_bounds-wipe-count : goal.slice_bounds-wipe-count
slice_bounds-wipe-count c =
    let (to, from) = lines_end c.args.limits c.run_of-run.result c.slots_end-slots.result c.heads_end-heads.result c.run_of-run.ensures.0 c.slots_end-slots.ensures c.heads_end-heads.ensures in
    omega (arith, to, c.requires.0, c.requires.1.fits)

pub slice_bounds-wipe-start : goal.slice_bounds-wipe-start
slice_bounds-wipe-start c =
    let (to, from) = lines_end c.args.limits c.run_of-run.result c.slots_end-slots.result c.heads_end-heads.result c.run_of-run.ensures.0 c.slots_end-slots.ensures c.heads_end-heads.ensures in
    omega (arith, to, c.requires.0, c.requires.1.fits)

pub returns : goal.returns
returns c =
    tail_loaded c.args.limits c.run_of-run.result c.args.work.now c.args.store.now c.copy_run.new.dst c.wipe.new.s c.slots_end-slots.result c.heads_end-heads.result c.run_of-run.ensures.0 c.slots_end-slots.ensures c.heads_end-heads.ensures
    c.requires.0 c.requires.1.fits c.requires.2 c.copy_run.ensures c.wipe.ensures
