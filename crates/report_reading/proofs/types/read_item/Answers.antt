use Rattle.lists.proofs.Kit.{rules, arith, ◌+◌, subst}
use Rattle.lists.specs.Bytes.{Bytes}
use Rattle.report_reading.specs.Readers.{FailedAt}
use Rattle.report_reading.proofs.TypeLaws.{no_first, by_type, the_error, known_error}
use Rattle.report_reading.proofs.types.read_item.Goals as goal

pub returns-then-remaining-lt1 : goal.returns-then-remaining-lt1
returns-then-remaining-lt1 c =
    let a = c.args in
    let h : Bytes a.m.now = λ i. (c.type_inv.m i).fits in
    no_first a.m.now a.at h (omega arith)

pub returns-then-asks : goal.returns-then-asks
returns-then-asks c =
    let a = c.args in
    let h : Bytes a.m.now = λ i. (c.type_inv.m i).fits in
    known_error a.m.now a.at h (c.number.ensures (omega arith, omega arith)) (omega arith) c.failed.ensures c.if-failed.true c.asks.ensures c.if-asks.true

pub overflow_add-result : goal.overflow_add-result
overflow_add-result c =
    let a = c.args in
    omega (arith, (subst (FailedAt a.m.now (a.at + 1)) c.if-failed.true c.failed.ensures).0)

pub returns-then-failed : goal.returns-then-failed
returns-then-failed c =
    let a = c.args in
    let h : Bytes a.m.now = λ i. (c.type_inv.m i).fits in
    the_error a.m.now a.at h (c.number.ensures (omega arith, omega arith)) (omega arith) c.failed.ensures c.if-failed.true c.asks.ensures c.if-asks.false

pub returns : goal.returns
returns c =
    let a = c.args in
    let h : Bytes a.m.now = λ i. (c.type_inv.m i).fits in
    by_type a.m.now a.at h (c.number.ensures (omega arith, omega arith)) (omega arith) c.failed.ensures c.if-failed.false c.read_fields_of.result c.read_fields_of.ensures
