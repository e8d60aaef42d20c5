use Rattle.lists.proofs.Kit.{rules, subst}
use Rattle.read_carrier.specs.Message.{MessageIs}
use Rattle.tables.proofs.AnswerLaws.{refused, granted}
use Rattle.updating.proofs.CheckLaws.{a_request, no_request}
use borrow.Enum.Refused.{opened as is_one_of}
use Rattle.updating.proofs.checking.is_request.Goals as goal

pub returns-in-Request : goal.returns-in-Request
returns-in-Request c =
    let a = c.args in
    granted (a_request a.most a.m.now c.in-Request.field-0 c.in-Request.field-1 c.in-Request.field-2 (subst (MessageIs a.most a.m.now) c.in-Request.is c.read_message-message.ensures))

pub returns-in_default : goal.returns-in_default
returns-in_default c =
    let a = c.args in
    let k = c.read_message-message in
    refused (no_request a.most a.m.now k.result (is_one_of c.in_default.in_default-own.keys2) k.ensures)
