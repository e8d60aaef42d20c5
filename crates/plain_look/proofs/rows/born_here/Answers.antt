use Rattle.lists.proofs.Kit.{refl, sym, ◌∙◌, subst⁻¹, not-false}
use Rattle.std.specs.declared.option.Option.TheVariants.{Some, None}
use Rattle.read_deeds.specs.declared.deeds.Deed.{Deed}
use Rattle.plain_look.specs.Looking.{BornHere}
use Rattle.plain_look.proofs.RowLooks.{put_gone, put_else, put_here}
use Rattle.plain_look.proofs.rows.born_here.Goals as goal

pub returns-in_err-found : goal.returns-in_err-found
returns-in_err-found c =
    let a = c.args in
    let s = c.same_kind in
    let l = c.look-known in
    subst⁻¹ (λ r. BornHere a.m.now a.cursor a.count a.kind a.number a.deed r) c.from_residual.ensures
    (subst⁻¹ (λ (x : Deed). BornHere a.m.now a.cursor a.count a.kind a.number x None) c.in-Puts.is
    (put_gone a.m.now a.cursor a.count a.kind a.number _ _ _ l.result (sym s.ensures ∙ not-false _ c.if-not-same_kind.false-raw) refl refl l.ensures c.in_err-found.was))

pub returns-then-found-number : goal.returns-then-found-number
returns-then-found-number c =
    let a = c.args in
    let s = c.same_kind in
    let l = c.look-known in
    subst⁻¹ (λ (x : Deed). BornHere a.m.now a.cursor a.count a.kind a.number x None) c.in-Puts.is
    (put_else a.m.now a.cursor a.count a.kind a.number _ _ _ l.result (sym s.ensures ∙ not-false _ c.if-not-same_kind.false-raw) refl refl l.ensures _ c.in_ok-found.was c.if-found-number.true)

pub returns : goal.returns
returns c =
    let a = c.args in
    let s = c.same_kind in
    let l = c.look-known in
    subst⁻¹ (λ (x : Deed). BornHere a.m.now a.cursor a.count a.kind a.number x (Some c.in_ok-found.found.put)) c.in-Puts.is
    (put_here a.m.now a.cursor a.count a.kind a.number _ _ _ l.result (sym s.ensures ∙ not-false _ c.if-not-same_kind.false-raw) refl refl l.ensures _ c.in_ok-found.was c.if-found-number.false)
