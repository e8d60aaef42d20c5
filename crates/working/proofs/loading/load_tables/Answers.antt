use Rattle.lists.proofs.Kit.{refl, arith}
use Rattle.working.proofs.LoadTables.{loads_start, loads_texts, loads_more, loads_end}
use Rattle.working.proofs.WalkLaws.{at_heads, at_room}
use Rattle.working.proofs.loading.load_tables.Goals as goal

pub loop-k-init : goal.loop-k-init
loop-k-init c = loads_start _ _ _ _

pub overflow_sub-n : goal.overflow_sub-n
overflow_sub-n c = at_heads c.loop-k.invariant.at (omega arith) c.run_of-run.result c.run_of-run.ensures.0

pub copy_run-requires : goal.copy_run-requires
copy_run-requires c =
    let r = c.run_of-run in
    let v = c.loop-k.invariant in
    let p = c.requires in
    let i = r.ensures.2 in
    at_room v.at (omega arith) r.result r.ensures.0 _ _ (omega (arith, i.slots, v.long, p.0, p.1.fits)) (omega (arith, i.heads, p.2))

pub load_run-place-requires : goal.load_run-place-requires
load_run-place-requires c =
    let r = c.run_of-run in
    let v = c.loop-k.invariant in
    let p = c.requires in
    let i = r.ensures.2 in
    (r.ensures.1, omega (arith, i.slots, v.long, p.0, p.1.fits), omega (arith, i.heads, p.2), loads_texts v (omega arith) r.result r.ensures.0 p.4)

pub loop-k-preserved : goal.loop-k-preserved
loop-k-preserved c =
    let r = c.run_of-run in
    let v = c.loop-k.invariant in
    let p = c.requires in
    let i = r.ensures.2 in
    let m = c.copy_run in
    let l = c.load_run-place in
    loads_more v (omega arith) r.result r.ensures.0 _ l.result c.heads_end-heads.result c.slots_end-slots.result m.new.dst l.new.work refl
    (omega (arith, i.slots, v.long, p.0, p.1.fits)) (omega (arith, i.heads, p.2)) p.3 m.ensures l.ensures c.heads_end-heads.ensures c.slots_end-slots.ensures

pub shape_of-work : goal.shape_of-work
shape_of-work c = c.loop-k.invariant.long

pub returns : goal.returns
returns c = loads_end c.loop-k.invariant (omega arith)
