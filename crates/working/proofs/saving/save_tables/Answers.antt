use Rattle.lists.proofs.Kit.{refl, length, arith}
use Rattle.working.proofs.SaveTables.{saves_start, saves_more, saves_end}
use Rattle.working.proofs.WalkLaws.{at_heads, at_room}
use Rattle.working.proofs.saving.save_tables.Goals as goal

pub loop-k-init : goal.loop-k-init
loop-k-init c = saves_start _ _ _

pub overflow_sub-n : goal.overflow_sub-n
overflow_sub-n c = at_heads c.loop-k.invariant.at (omega arith) c.run_of-run.result c.run_of-run.ensures.0

pub copy_run-requires : goal.copy_run-requires
copy_run-requires c =
    let r = c.run_of-run in
    let v = c.loop-k.invariant in
    let p = c.requires in
    let i = r.ensures.2 in
    let (w, s) = at_room v.at (omega arith) r.result r.ensures.0 (length c.args.work.now) (length c.loop-k.store) (omega (arith, i.slots, p.1, p.2.fits)) (omega (arith, i.heads, v.long, p.0)) in
    (s, w)

pub save_run-requires : goal.save_run-requires
save_run-requires c =
    let r = c.run_of-run in
    let v = c.loop-k.invariant in
    let p = c.requires in
    let i = r.ensures.2 in
    (r.ensures.1, omega (arith, i.heads, v.long, p.0), omega (arith, i.slots, p.1, p.2.fits))

pub loop-k-preserved : goal.loop-k-preserved
loop-k-preserved c =
    let r = c.run_of-run in
    let v = c.loop-k.invariant in
    let p = c.requires in
    let i = r.ensures.2 in
    let m = c.copy_run in
    let l = c.save_run in
    saves_more v (omega arith) r.result r.ensures.0 _ c.heads_end-heads.result c.slots_end-slots.result m.new.dst l.new.store refl
    (omega (arith, i.slots, p.1, p.2.fits)) (omega (arith, i.heads, v.long, p.0)) m.ensures l.ensures c.heads_end-heads.ensures c.slots_end-slots.ensures

pub shape_of-store : goal.shape_of-store
shape_of-store c = c.loop-k.invariant.long

pub returns : goal.returns
returns c = saves_end c.loop-k.invariant (omega arith)
