use Rattle.lists.proofs.Kit.{rules, arith, refl}
use Rattle.lists.specs.Bytes.{Bytes}
use Rattle.report_reading.proofs.TypeLaws.{not_failed, failed_by}
use Rattle.report_reading.proofs.types.failed.Goals as goal

pub returns-then-remaining-lt1 : goal.returns-then-remaining-lt1
returns-then-remaining-lt1 c =
    let a = c.args in
    let h : Bytes a.m.now = λ i. (c.type_inv.m i).fits in
    not_failed a.m.now a.p h (omega arith)

pub returns : goal.returns
returns c =
    let a = c.args in
    let h : Bytes a.m.now = λ i. (c.type_inv.m i).fits in
    failed_by a.m.now a.p h _ (c.number.ensures (omega arith, omega arith)) (omega arith) refl
