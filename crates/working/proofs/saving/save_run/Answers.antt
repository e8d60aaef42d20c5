use Rattle.working.proofs.SaveTables.{heads_saved}
use Rattle.working.proofs.saving.save_run.Goals as goal

pub returns : goal.returns
returns c =
    let a = c.args in
    let s = c.slots_end-end in
    let h = c.heads_end-tail in
    heads_saved a.run a.work.now s.result s.ensures a.store.now c.save_heads.new.heads h.result h.ensures c.save_heads.ensures
