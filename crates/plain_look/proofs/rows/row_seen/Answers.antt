use Rattle.lists.proofs.Kit.{refl, sym, ◌∙◌, subst⁻¹}
use Rattle.plain_look.specs.Looking.{RowIs}
use Rattle.plain_look.proofs.RowLooks.{row_gone, row_placed}
use Rattle.plain_look.proofs.rows.row_seen.Goals as goal

pub returns-in_err-found : goal.returns-in_err-found
returns-in_err-found c =
    let a = c.args in
    subst⁻¹ (λ r. RowIs a.m.now a.cursor a.count a.kind a.row r) c.from_residual.ensures
    (row_gone a.m.now a.cursor a.count a.kind a.row _ c.look-known.result refl refl (sym c.is_listed.ensures ∙ c.if-is_listed.false) c.look-known.ensures c.in_err-found.was)

pub returns : goal.returns
returns c =
    let a = c.args in
    row_placed a.m.now a.cursor a.count a.kind a.row _ c.look-known.result refl refl (sym c.is_listed.ensures ∙ c.if-is_listed.false) c.look-known.ensures _ c.in_ok-found.was
