use Rattle.lists.proofs.Kit.{rules}
use Rattle.store_places.proofs.FixedLaws.{hash_cleared}
use Rattle.store_places.proofs.fixed.clear_hash.Goals as goal

pub returns : goal.returns
returns c =
    let a = c.args in
    let y = c.wipe in
    λ n. hash_cleared a.region.now y.new.s y.ensures n
