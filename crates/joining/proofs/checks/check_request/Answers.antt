use Rattle.lists.proofs.Kit.{subst}
use Rattle.read_carrier.specs.Message.{MessageIs}
use Rattle.read_carrier.specs.declared.carrier.Message.TheVariants.{Size, Carrier, «Type» as AnotherType, Version, NoRequest as NotRequest, Request as ARequest, NoQuery as NotQuery, Query as AQuery}
use Rattle.joining.specs.Checking.{OpensElse}
use Rattle.joining.proofs.CheckLaws.{is_other, by_message}
use Rattle.joining.proofs.checks.check_request.Goals as goal

pub returns-then-is_other : goal.returns-then-is_other
returns-then-is_other c = let a = c.args in
    is_other a.most a.m.now (subst (OpensElse a.most a.m.now) c.if-is_other.true c.is_other.ensures)

pub returns-in-Size : goal.returns-in-Size
returns-in-Size c = let a = c.args in
    by_message a.most a.m.now Size (subst (MessageIs a.most a.m.now) c.in-Size.is c.read_message-message.ensures) (subst (OpensElse a.most a.m.now) c.if-is_other.false c.is_other.ensures)

pub returns-in-Carrier : goal.returns-in-Carrier
returns-in-Carrier c = let a = c.args in
    by_message a.most a.m.now Carrier (subst (MessageIs a.most a.m.now) c.in-Carrier.is c.read_message-message.ensures) (subst (OpensElse a.most a.m.now) c.if-is_other.false c.is_other.ensures)

pub returns-in-Type : goal.returns-in-Type
returns-in-Type c = let a = c.args in
    by_message a.most a.m.now AnotherType (subst (MessageIs a.most a.m.now) c.in-Type.is c.read_message-message.ensures) (subst (OpensElse a.most a.m.now) c.if-is_other.false c.is_other.ensures)

pub returns-in-Version : goal.returns-in-Version
returns-in-Version c = let a = c.args in
    by_message a.most a.m.now Version (subst (MessageIs a.most a.m.now) c.in-Version.is c.read_message-message.ensures) (subst (OpensElse a.most a.m.now) c.if-is_other.false c.is_other.ensures)

pub returns-in-NoRequest : goal.returns-in-NoRequest
returns-in-NoRequest c = let a = c.args in
    by_message a.most a.m.now NotRequest (subst (MessageIs a.most a.m.now) c.in-NoRequest.is c.read_message-message.ensures) (subst (OpensElse a.most a.m.now) c.if-is_other.false c.is_other.ensures)

pub returns-in-NoQuery : goal.returns-in-NoQuery
returns-in-NoQuery c = let a = c.args in
    by_message a.most a.m.now NotQuery (subst (MessageIs a.most a.m.now) c.in-NoQuery.is c.read_message-message.ensures) (subst (OpensElse a.most a.m.now) c.if-is_other.false c.is_other.ensures)

pub returns-in-Query : goal.returns-in-Query
returns-in-Query c = let a = c.args in
    by_message a.most a.m.now (AQuery c.in-Query.field-0) (subst (MessageIs a.most a.m.now) c.in-Query.is c.read_message-message.ensures) (subst (OpensElse a.most a.m.now) c.if-is_other.false c.is_other.ensures)

pub returns-in-Request : goal.returns-in-Request
returns-in-Request c = let a = c.args in
    by_message a.most a.m.now (ARequest c.in-Request.count c.in-Request.at c.in-Request.coding) (subst (MessageIs a.most a.m.now) c.in-Request.is c.read_message-message.ensures) (subst (OpensElse a.most a.m.now) c.if-is_other.false c.is_other.ensures) c.check_settings.result c.check_settings.ensures
