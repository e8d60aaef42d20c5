use Rattle.lists.proofs.Kit.{arith, refl, inl}
use Rattle.tables.proofs.AnswerLaws.{not_said, was_said}
use Rattle.values.proofs.FixedLaws.{key_answered}
use Rattle.values.proofs.fixed.key_in.Goals as goal

pub returns-then-not-is_store : goal.returns-then-not-is_store
returns-then-not-is_store c = inl (not_said c.is_store.result c.is_store.ensures c.if-not-is_store.true-raw, refl)

pub slice_bounds-key_of-end : goal.slice_bounds-key_of-end
slice_bounds-key_of-end c =
    let s = was_said c.is_store.result c.is_store.ensures c.if-not-is_store.false-raw in
    omega (arith, s.size, s.roomy.fits)

pub returns : goal.returns
returns c =
    let a = c.args in
    key_answered a.limits a.store.now (was_said c.is_store.result c.is_store.ensures c.if-not-is_store.false-raw) c.key_of.result c.key_of.ensures
