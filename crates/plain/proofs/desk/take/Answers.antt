use Rattle.lists.proofs.Kit.{refl, subst, arith, inl, inr}
use Rattle.read_carrier.specs.Message.{MessageIs}
use Rattle.read_carrier.specs.declared.carrier.Message.TheVariants.{Size, Carrier, «Type» as OtherType, Version, NoRequest, NoQuery, Query as AQuery, Request as ARequest}
use Rattle.tables.specs.Limits.{handheld}
use Rattle.plain_log.specs.Checking.{AreaIs}
use Rattle.plain.proofs.LadderLaws.{by_kind}
use Rattle.plain.proofs.desk.take.Goals as goal

pub returns-then-reply-lt20 : goal.returns-then-reply-lt20
returns-then-reply-lt20 c = inl (c.if-reply-lt20.true, refl)

pub returns-in_default : goal.returns-in_default
returns-in_default c =
    let a = c.args in
    let n = subst (AreaIs a.area.now _ _) c.in_default.is c.check_area.ensures refl in
    inr ((λ h. omega (arith, h, c.if-reply-lt20.false)), inl (n, refl))

pub returns-in-Size : goal.returns-in-Size
returns-in-Size c =
    let a = c.args in
    let seen = subst (AreaIs a.area.now _ _) c.in-Some.is c.check_area.ensures refl in
    let is = subst (MessageIs handheld.message a.m.now) c.in-Size.is c.read_message-message.ensures in
    by_kind a.m.now a.area.now a.reply.now _ c.if-reply-lt20.false (seen.log, seen.tables, seen.area) Size is refl

pub returns-in-Carrier : goal.returns-in-Carrier
returns-in-Carrier c =
    let a = c.args in
    let seen = subst (AreaIs a.area.now _ _) c.in-Some.is c.check_area.ensures refl in
    let is = subst (MessageIs handheld.message a.m.now) c.in-Carrier.is c.read_message-message.ensures in
    by_kind a.m.now a.area.now a.reply.now _ c.if-reply-lt20.false (seen.log, seen.tables, seen.area) Carrier is refl

pub returns-in-Type : goal.returns-in-Type
returns-in-Type c =
    let a = c.args in
    let seen = subst (AreaIs a.area.now _ _) c.in-Some.is c.check_area.ensures refl in
    let is = subst (MessageIs handheld.message a.m.now) c.in-Type.is c.read_message-message.ensures in
    by_kind a.m.now a.area.now a.reply.now _ c.if-reply-lt20.false (seen.log, seen.tables, seen.area) OtherType is refl

pub returns-in-Version : goal.returns-in-Version
returns-in-Version c =
    let a = c.args in
    let seen = subst (AreaIs a.area.now _ _) c.in-Some.is c.check_area.ensures refl in
    let is = subst (MessageIs handheld.message a.m.now) c.in-Version.is c.read_message-message.ensures in
    by_kind a.m.now a.area.now a.reply.now _ c.if-reply-lt20.false (seen.log, seen.tables, seen.area) Version is (c.turn_down.ensures c.if-reply-lt20.false a.m.now a.area.now)

pub returns-in-NoRequest : goal.returns-in-NoRequest
returns-in-NoRequest c =
    let a = c.args in
    let seen = subst (AreaIs a.area.now _ _) c.in-Some.is c.check_area.ensures refl in
    let is = subst (MessageIs handheld.message a.m.now) c.in-NoRequest.is c.read_message-message.ensures in
    by_kind a.m.now a.area.now a.reply.now _ c.if-reply-lt20.false (seen.log, seen.tables, seen.area) NoRequest is (c.turn_down-in-NoRequest.ensures c.if-reply-lt20.false a.m.now a.area.now)

pub returns-in-NoQuery : goal.returns-in-NoQuery
returns-in-NoQuery c =
    let a = c.args in
    let seen = subst (AreaIs a.area.now _ _) c.in-Some.is c.check_area.ensures refl in
    let is = subst (MessageIs handheld.message a.m.now) c.in-NoQuery.is c.read_message-message.ensures in
    by_kind a.m.now a.area.now a.reply.now _ c.if-reply-lt20.false (seen.log, seen.tables, seen.area) NoQuery is (c.turn_down-in-NoQuery.ensures c.if-reply-lt20.false a.m.now a.area.now)

pub returns-in-Query : goal.returns-in-Query
returns-in-Query c =
    let a = c.args in
    let seen = subst (AreaIs a.area.now _ _) c.in-Some.is c.check_area.ensures refl in
    let is = subst (MessageIs handheld.message a.m.now) c.in-Query.is c.read_message-message.ensures in
    by_kind a.m.now a.area.now a.reply.now _ c.if-reply-lt20.false (seen.log, seen.tables, seen.area) (AQuery c.in-Query.place) is (record {
      log = seen.log;
      tables = seen.tables;
      area_is = seen.area;
      comes_to = inr (c.answer_query.ensures c.if-reply-lt20.false seen.tables seen.hash is);
    })

pub returns-in-Request : goal.returns-in-Request
returns-in-Request c =
    let a = c.args in
    let seen = subst (AreaIs a.area.now _ _) c.in-Some.is c.check_area.ensures refl in
    let is = subst (MessageIs handheld.message a.m.now) c.in-Request.is c.read_message-message.ensures in
    by_kind a.m.now a.area.now a.reply.now _ c.if-reply-lt20.false (seen.log, seen.tables, seen.area) (ARequest c.in-Request.count c.in-Request.at c.in-Request.coding) is (c.take_request.ensures c.if-reply-lt20.false seen is)
