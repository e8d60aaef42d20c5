use Rattle.lists.proofs.Kit.{rules, arith}
use Rattle.store_places.proofs.OverwriteLaws.{small_place, place_lent}
use Rattle.store_places.proofs.overwriting.set_place.Goals as goal

pub overflow_mul-at : goal.overflow_mul-at
overflow_mul-at c =
    let a = c.args in
    omega (arith, small_place a.k a.w (omega arith) (omega arith))

pub overflow_add-e : goal.overflow_add-e
overflow_add-e c =
    let a = c.args in
    omega (arith, small_place a.k a.w (omega arith) (omega arith))

pub returns-then-region-e : goal.returns-then-region-e
returns-then-region-e c = λ h. absurd (omega (arith, h))

pub returns : goal.returns
returns c =
    let a = c.args in
    let y = c.set_slot in
    λ h. place_lent a.keep a.m.now a.operation a.text a.head.now a.w a.k a.region.now y.new.slot y.ensures
