use Rattle.lists.proofs.Kit.{rules, arith, refl, subst⁻¹}
use Rattle.lists.specs.Bytes.{Bytes}
use Rattle.report_reading.specs.Readers.{ItemAt, KeptAt}
use Rattle.report_reading.proofs.KeptLaws.{no_code, code_0, no_value, the_value}
use Rattle.report_reading.proofs.fixed.read_kept.Goals as goal

pub returns-then-remaining-lt1 : goal.returns-then-remaining-lt1
returns-then-remaining-lt1 c =
    let a = c.args in
    let h : Bytes a.m.now = λ i. (c.type_inv.m i).fits in
    no_code a.m.now a.p h (omega arith)

pub returns-then-code-eq0 : goal.returns-then-code-eq0
returns-then-code-eq0 c =
    let a = c.args in
    let h : Bytes a.m.now = λ i. (c.type_inv.m i).fits in
    code_0 a.m.now a.p h (c.number.ensures (omega arith, omega arith)) c.if-code-eq0.true

pub returns-in_err-place : goal.returns-in_err-place
returns-in_err-place c =
    let a = c.args in
    let h : Bytes a.m.now = λ i. (c.type_inv.m i).fits in
    subst⁻¹ (KeptAt a.m.now a.p) c.from_residual.ensures
    (no_value a.m.now a.p h (c.number.ensures (omega arith, omega arith)) c.in_err-place.ensures refl)

pub returns : goal.returns
returns c =
    let a = c.args in
    let h : Bytes a.m.now = λ i. (c.type_inv.m i).fits in
    the_value a.m.now a.p h (c.number.ensures (omega arith, omega arith)) c.in_ok-place.place c.in_ok-place.next c.in_ok-place.ensures refl c.if-code-eq0.false (omega arith)
