use Rattle.lists.proofs.Kit.{rules}
use Rattle.store_places.proofs.FixedLaws.{system_put}
use Rattle.store_places.proofs.fixed.put_system.Goals as goal

pub returns : goal.returns
returns c =
    let a = c.args in
    let b = c.bit_of in
    let y = c.copy in
    system_put a.s a.region.now y.new.dst b.result b.ensures.0 y.ensures
