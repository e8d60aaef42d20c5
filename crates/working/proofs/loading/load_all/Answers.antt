use Rattle.lists.proofs.Kit.{arith}
use Rattle.working.proofs.LoadedLaws.{area_asks, all_loaded}
use Rattle.working.proofs.loading.load_all.Goals as goal

pub load_tables-requires : goal.load_tables-requires
load_tables-requires c =
    let h = c.heads_size-heads in
    let p = c.requires in
    let (d, t) = area_asks c.args.limits c.args.area h.result c.args.store.now h.ensures (omega (arith, h.ensures, p.2, p.3.fits)) p.4 in
    (p.0, p.1, omega (arith, p.2, p.3.fits), d, t)

pub returns : goal.returns
returns c =
    let h = c.heads_size-heads in
    let a = c.args in
    all_loaded a.limits a.area h.result a.store.now c.load_tables.new.work c.load_tail.new.work h.ensures (omega (arith, h.ensures, c.requires.2, c.requires.3.fits)) c.load_tables.ensures c.load_tail.ensures
