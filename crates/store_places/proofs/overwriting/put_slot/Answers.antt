use Rattle.lists.proofs.Kit.{rules, sym, ◌∙◌, not-true, not-false}
use Rattle.store_places.proofs.OverwriteLaws.{slot_kept, slot_put}
use Rattle.store_places.proofs.overwriting.put_slot.Goals as goal

pub returns-then-not-is_free : goal.returns-then-not-is_free
returns-then-not-is_free c =
    let a = c.args in
    let f = c.is_free in
    slot_kept a.keep a.m.now a.text a.head.now a.slot.now (sym f.ensures ∙ not-true f.result c.if-not-is_free.true-raw)

pub returns : goal.returns
returns c =
    let a = c.args in
    let f = c.is_free in
    let y = c.fill_slot in
    slot_put a.keep a.m.now a.text a.head.now a.slot.now y.new.slot (sym f.ensures ∙ not-false f.result c.if-not-is_free.false-raw) y.ensures
