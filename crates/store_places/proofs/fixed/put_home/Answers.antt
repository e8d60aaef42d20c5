use Rattle.lists.proofs.Kit.{rules}
use Rattle.store_places.proofs.FixedLaws.{copied}
use Rattle.store_places.proofs.fixed.put_home.Goals as goal

pub returns : goal.returns
returns c =
    let a = c.args in
    let y = c.copy in
    λ n. copied _ a.region.now y.new.dst n y.ensures
