use Rattle.lists.proofs.Kit.{rules}
use Rattle.working.proofs.SeenLaws.{seen}
use Rattle.working.proofs.seen.seen.Goals as goal

pub returns : goal.returns
returns c = λ s l.
    let a = c.args in
    let f = c.fill in
    seen a.limits a.store.now a.work.now f.new.work c.pick.result.now s.size s.roomy (search rules) l f.ensures c.pick.ensures
