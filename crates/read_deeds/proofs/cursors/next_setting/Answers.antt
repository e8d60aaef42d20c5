use Rattle.lists.proofs.Kit.{subst⁻¹}
use Rattle.read_setting.proofs.Theorems.{Refused}
use Rattle.read_deeds.proofs.CursorLaws.{setting_refused, setting_moved}
use Rattle.read_deeds.proofs.cursors.next_setting.Goals as goal

pub returns-then-cursor-eq0 : goal.returns-then-cursor-eq0
returns-then-cursor-eq0 c = λ d ds none some x. absurd (some c.if-cursor-eq0.true)

pub returns-in_default : goal.returns-in_default
returns-in_default c =
    let a = c.args in
    let s = c.read_setting in
    setting_refused a.m.now a.cursor (λ k. (c.type_inv.m k).fits) s.result s.ensures c.stay-in_default.result (subst⁻¹ Refused c.in_default.is tt)

pub returns : goal.returns
returns c =
    let a = c.args in
    let s = c.read_setting in
    let t = c.begin-turn in
    setting_moved a.m.now a.cursor (λ k. (c.type_inv.m k).fits) s.result s.ensures _ _ t.result c.in-Ok.is t.ensures
