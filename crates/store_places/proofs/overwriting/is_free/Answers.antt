use Rattle.lists.proofs.Kit.{rules, sym, ap, ◌∙◌}
use Rattle.store_places.specs.Changes.{free?}
use Rattle.store_places.proofs.overwriting.is_free.Goals as goal

pub returns-then-keep : goal.returns-then-keep
returns-then-keep c =
    let a = c.args in
    c.is_zeros.ensures ∙ sym (ap (λ k. free? k a.slot.now) c.if-keep.true)

pub returns : goal.returns
returns c =
    let a = c.args in
    sym (ap (λ k. free? k a.slot.now) c.if-keep.false)
