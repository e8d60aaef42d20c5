use Rattle.lists.proofs.Kit.{rules}
use Rattle.updating.proofs.CheckLaws.{took}
use Rattle.updating.proofs.checking.takes.Goals as goal

pub returns : goal.returns
returns c =
    let a = c.args in
    let k = c.commit_for-answer in
    λ size. took a.limits a.message.now a.store.now _ _ _ k.result c.number.result (search rules) (k.ensures size) c.number.ensures
