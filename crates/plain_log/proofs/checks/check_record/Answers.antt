use Rattle.lists.proofs.Kit.{arith, ◌+◌, ◌-◌, ◌≤◌, refl, subst}
use Rattle.lists.specs.Bytes.{Bytes}
use Rattle.read_carrier.specs.Message.{MessageIs}
use Rattle.tables.specs.Limits.{handheld}
use Rattle.plain_judge.specs.Judging.{RunIs}
use Rattle.plain_log.proofs.TakenLaws.{not_there, not_request, not_good, is_good}
use borrow.Enum.Refused.{opened as is_one_of}
use Rattle.plain_log.proofs.checks.check_record.Goals as goal

pub returns-then-end-start : goal.returns-then-end-start
returns-then-end-start c =
    let a = c.args in
    not_there a.area.now a.at a.end a.deeds c.number_at-size.result c.number_at-size.result a.weights.now a.weights.now c.number_at-size.ensures refl (omega arith) (omega arith)

pub returns-in_default : goal.returns-in_default
returns-in_default c =
    let a = c.args in
    let size = c.number_at-size.result in
    not_request a.area.now a.at a.end a.deeds size (a.at + 2 + size - (a.at + 2)) a.weights.now a.weights.now c.number_at-size.ensures (omega arith) c.read_message-message.result (is_one_of c.in_default.in_default-own.keys2) c.read_message-message.ensures

pub returns-in-Ok : goal.returns-in-Ok
returns-in-Ok c =
    let a = c.args in
    let size = c.number_at-size.result in
    let k = a.at + 2 + size - (a.at + 2) in
    let message = subst (MessageIs handheld.message _) c.in-Request.is c.read_message-message.ensures in
    let left : a.at ≤ a.end - 2 = c.if-end-at.false in
    let inside : a.at + 2 + size ≤ a.end = omega (arith, left, c.if-end-lt2.false, c.if-end-start.false) in
    let bytes : Bytes a.area.now = λ i. (c.shared_slice_known-1.given i).fits in
    is_good a.area.now a.at a.end a.deeds size k _ _ c.number_at-size.ensures (omega arith) c.in-Request.count c.in-Request.from c.in-Request.coding message bytes inside c.if-area-end.false c.in-Ok.item c.in-Ok.passed (a.at + 2 + size)
    c.moved.result (subst (RunIs a.area.now a.deeds _ _ _ _) c.in-Ok.is c.judge_settings.ensures) refl c.moved.ensures.0 (λ e. c.moved.ensures.1 (omega (arith, e, inside)))

pub returns-in-Err : goal.returns-in-Err
returns-in-Err c =
    let a = c.args in
    let size = c.number_at-size.result in
    let k = a.at + 2 + size - (a.at + 2) in
    let message = subst (MessageIs handheld.message _) c.in-Request.is c.read_message-message.ensures in
    not_good a.area.now a.at a.end a.deeds size k a.weights.now a.weights.now c.number_at-size.ensures (omega arith) c.in-Request.count c.in-Request.from c.in-Request.coding message _ (subst (RunIs a.area.now a.deeds _ _ _ _) c.in-Err.is c.judge_settings.ensures)
