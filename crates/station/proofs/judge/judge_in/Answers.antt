use Rattle.lists.proofs.Kit.{refl, subst}
use Rattle.read_carrier.specs.Message.{MessageIs}
use Rattle.read_carrier.specs.declared.carrier.Message.TheVariants.{Size, Carrier, «Type» as OtherType, Version, NoRequest, NoQuery, Query as AQuery}
use Rattle.tables.proofs.AnswerLaws.{was_said}
use Rattle.station.proofs.TakeLaws.{handled, request_verdict}
use Rattle.station.proofs.judge.judge_in.Goals as goal

pub returns-in-Size : goal.returns-in-Size
returns-in-Size c =
    let a = c.args in
    handled a.limits a.m.now a.store.now a.reply.now _ c.if-reply-lt20.false (was_said c.is_store.result c.is_store.ensures c.if-not-is_store.false-raw) Size (subst (MessageIs a.limits.message a.m.now) c.in-Size.is c.read_message-message.ensures) (λ t h. refl)

pub returns-in-Carrier : goal.returns-in-Carrier
returns-in-Carrier c =
    let a = c.args in
    handled a.limits a.m.now a.store.now a.reply.now _ c.if-reply-lt20.false (was_said c.is_store.result c.is_store.ensures c.if-not-is_store.false-raw) Carrier (subst (MessageIs a.limits.message a.m.now) c.in-Carrier.is c.read_message-message.ensures) (λ t h. refl)

pub returns-in-Type : goal.returns-in-Type
returns-in-Type c =
    let a = c.args in
    handled a.limits a.m.now a.store.now a.reply.now _ c.if-reply-lt20.false (was_said c.is_store.result c.is_store.ensures c.if-not-is_store.false-raw) OtherType (subst (MessageIs a.limits.message a.m.now) c.in-Type.is c.read_message-message.ensures) (λ t h. refl)

pub returns-in-Version : goal.returns-in-Version
returns-in-Version c =
    let a = c.args in
    handled a.limits a.m.now a.store.now a.reply.now _ c.if-reply-lt20.false (was_said c.is_store.result c.is_store.ensures c.if-not-is_store.false-raw) Version (subst (MessageIs a.limits.message a.m.now) c.in-Version.is c.read_message-message.ensures) (λ t h. c.turn_down.ensures a.limits a.m.now a.store.now)

pub returns-in-NoRequest : goal.returns-in-NoRequest
returns-in-NoRequest c =
    let a = c.args in
    handled a.limits a.m.now a.store.now a.reply.now _ c.if-reply-lt20.false (was_said c.is_store.result c.is_store.ensures c.if-not-is_store.false-raw) NoRequest (subst (MessageIs a.limits.message a.m.now) c.in-NoRequest.is c.read_message-message.ensures) (λ t h. c.turn_down-in-NoRequest.ensures a.limits a.m.now a.store.now)

pub returns-in-NoQuery : goal.returns-in-NoQuery
returns-in-NoQuery c =
    let a = c.args in
    handled a.limits a.m.now a.store.now a.reply.now _ c.if-reply-lt20.false (was_said c.is_store.result c.is_store.ensures c.if-not-is_store.false-raw) NoQuery (subst (MessageIs a.limits.message a.m.now) c.in-NoQuery.is c.read_message-message.ensures) (λ t h. c.turn_down-in-NoQuery.ensures a.limits a.m.now a.store.now)

pub returns-in-Query : goal.returns-in-Query
returns-in-Query c =
    let a = c.args in
    let q = subst (MessageIs a.limits.message a.m.now) c.in-Query.is c.read_message-message.ensures in
    handled a.limits a.m.now a.store.now a.reply.now _ c.if-reply-lt20.false (was_said c.is_store.result c.is_store.ensures c.if-not-is_store.false-raw) (AQuery c.in-Query.place) q (λ t h. c.answer_query.ensures a.limits t h q)

pub returns-in-Request : goal.returns-in-Request
returns-in-Request c =
    let a = c.args in
    let d = c.copy_for-copy.result in
    let j = c.judge_request-run in
    let w = c.weigh in
    request_verdict a.limits a.m.now a.store.now a.reply.now _ _ c.in-Request.coding d c.in-Request.count c.in-Request.at c.if-reply-lt20.false (was_said c.is_store.result c.is_store.ensures c.if-not-is_store.false-raw) (subst (MessageIs a.limits.message a.m.now) c.in-Request.is c.read_message-message.ensures) j.result w.result j.ensures w.ensures
