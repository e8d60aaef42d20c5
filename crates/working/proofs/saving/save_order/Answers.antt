use Rattle.lists.proofs.Kit.{arith}
use Rattle.working.proofs.WholeLaws.{lines_end, order_saved}
use Rattle.working.proofs.saving.save_order.Goals as goal

pub copy_run-requires : goal.copy_run-requires
copy_run-requires c =
    let (from, to) = lines_end c.args.limits c.run_of-run.result c.slots_end-slots.result c.heads_end-heads.result c.run_of-run.ensures.0 c.slots_end-slots.ensures c.heads_end-heads.ensures in
    (omega (arith, to, c.requires.0), omega (arith, from, c.requires.1, c.requires.2.fits))

pub returns : goal.returns
returns c =
    order_saved c.args.limits c.run_of-run.result c.args.store.now c.args.work.now c.copy_run.new.dst c.slots_end-slots.result c.heads_end-heads.result c.run_of-run.ensures.0 c.slots_end-slots.ensures c.heads_end-heads.ensures
    c.requires.0 (omega (arith, c.requires.1, c.requires.2.fits)) c.copy_run.ensures
