use Rattle.lists.proofs.Kit.{rules, arith, refl}
use Rattle.lists.specs.Bytes.{Bytes}
use Rattle.report_reading.proofs.MessageLaws.{no_head, bad_head, bad_walk, the_report, a_report, no_report}
use Rattle.report_reading.proofs.messages.read_body.Goals as goal

pub returns-then-remaining-lt3 : goal.returns-then-remaining-lt3
returns-then-remaining-lt3 c =
    let a = c.args in
    let h : Bytes a.m.now = λ i. (c.type_inv.m i).fits in
    λ most s. no_report most a.m.now s c.requires refl refl (no_head a.m.now h (omega arith))

pub returns-then-head_refused : goal.returns-then-head_refused
returns-then-head_refused c =
    let a = c.args in
    let h : Bytes a.m.now = λ i. (c.type_inv.m i).fits in
    λ most s. no_report most a.m.now s c.requires refl refl
    (bad_head a.m.now h (c.number-n.ensures (omega arith, omega arith)) c.head_refused.result c.head_refused.ensures c.if-head_refused.true)

pub returns-then-not-walk : goal.returns-then-not-walk
returns-then-not-walk c =
    let a = c.args in
    let h : Bytes a.m.now = λ i. (c.type_inv.m i).fits in
    λ most s. no_report most a.m.now s c.requires refl refl
    (bad_walk a.m.now h (c.number-n.ensures (omega arith, omega arith)) c.walk.result c.walk.ensures c.if-not-walk.true-raw)

pub returns : goal.returns
returns c =
    let a = c.args in
    let h : Bytes a.m.now = λ i. (c.type_inv.m i).fits in
    let z = the_report a.m.now h (c.number-n.ensures (omega arith, omega arith)) c.head_refused.result c.walk.result c.requires (omega arith)
    c.head_refused.ensures c.if-head_refused.false c.walk.ensures c.if-not-walk.false-raw in
    λ most s. a_report most a.m.now s z.0 z.1 z.2
