use Rattle.lists.proofs.Kit.{refl, arith}
use Rattle.working.proofs.SavedLaws.{sum_lent, all_saved}
use Rattle.working.proofs.saving.save_all.Goals as goal

pub save_area-requires : goal.save_area-requires
save_area-requires c = let p = c.requires in (p.2, p.3)

pub returns : goal.returns
returns c = λ n.
    let a = c.args in
    let h = c.heads_size-start in
    all_saved a.limits a.area h.result a.work.now c.save_order.new.store h.ensures (omega arith) c.save_tables.new.store _ c.save_area.new.area c.wipe.new.s (omega arith)
    c.save_tables.ensures c.save_order.ensures (c.save_area.ensures (sum_lent a.limits a.area h.result a.work.now _ h.ensures (omega arith) n)) refl c.wipe.ensures
