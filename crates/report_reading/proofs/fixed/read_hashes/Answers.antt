use Rattle.lists.proofs.Kit.{rules, arith}
use Rattle.lists.specs.Bytes.{Bytes}
use Rattle.report_reading.proofs.KeptLaws.{no_count, count_0, count_1, count_more}
use Rattle.report_reading.proofs.fixed.read_hashes.Goals as goal

pub returns-then-remaining-lt1 : goal.returns-then-remaining-lt1
returns-then-remaining-lt1 c =
    let a = c.args in
    let h : Bytes a.m.now = λ i. (c.type_inv.m i).fits in
    no_count a.m.now a.p h (omega arith)

pub returns-in-0 : goal.returns-in-0
returns-in-0 c =
    let a = c.args in
    let h : Bytes a.m.now = λ i. (c.type_inv.m i).fits in
    count_0 a.m.now a.p h (c.number.ensures (omega arith, omega arith)) (omega arith) c.in-0.is

pub returns-in-1 : goal.returns-in-1
returns-in-1 c =
    let a = c.args in
    let h : Bytes a.m.now = λ i. (c.type_inv.m i).fits in
    count_1 a.m.now a.p h (c.number.ensures (omega arith, omega arith)) (omega arith) c.in-1.is c.read_kept.result c.read_kept.ensures

pub returns-in_default : goal.returns-in_default
returns-in_default c =
    let a = c.args in
    let h : Bytes a.m.now = λ i. (c.type_inv.m i).fits in
    count_more a.m.now a.p h (c.number.ensures (omega arith, omega arith)) (λ u. omega arith) (λ u. omega arith)
