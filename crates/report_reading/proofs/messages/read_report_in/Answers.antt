use Rattle.read_carrier.specs.declared.carrier.Unopened.{Unopened}
use Rattle.std.specs.Prelude.{Err}
use Rattle.lists.proofs.Kit.{rules, subst}
use Rattle.read_carrier.specs.Message.{OpenedIs}
use Rattle.report_reading.proofs.MessageLaws.{out_of_size, not_carried, other_type, other_version, other_coding, opens_7}
use Rattle.report_reading.proofs.messages.read_report_in.Goals as goal

pub returns-then-opened-ne-REPORT : goal.returns-then-opened-ne-REPORT
returns-then-opened-ne-REPORT c =
    let a = c.args in
    let o = c.in-Ok.ensures in
    other_type a.most a.m.now o.0 o.1 c.if-opened-ne-REPORT.true

pub returns-then-opened-ne-VERSION : goal.returns-then-opened-ne-VERSION
returns-then-opened-ne-VERSION c =
    let a = c.args in
    let o = c.in-Ok.ensures in
    other_version a.most a.m.now o.0 o.1 c.if-opened-ne-REPORT.false c.if-opened-ne-VERSION.true

pub returns-then-opened-ne-UNICODE16 : goal.returns-then-opened-ne-UNICODE16
returns-then-opened-ne-UNICODE16 c =
    let a = c.args in
    let o = c.in-Ok.ensures in
    other_coding a.most a.m.now o.0 o.1 c.if-opened-ne-REPORT.false c.if-opened-ne-VERSION.false c.if-opened-ne-UNICODE16.true

pub read_body-requires : goal.read_body-requires
read_body-requires c =
    let a = c.args in
    let o = c.in-Ok.ensures in
    opens_7 c.if-opened-ne-VERSION.false c.if-opened-ne-REPORT.false c.if-opened-ne-UNICODE16.false o.1

pub returns-in-Err-Size : goal.returns-in-Err-Size
returns-in-Err-Size c =
    let a = c.args in
    out_of_size a.most a.m.now ((subst (λ (f : Unopened). OpenedIs a.most a.m.now (Err f)) c.in-Err-Size.field-0-is c.in-Err-Size.ensures))

pub returns-in-Err-Carrier : goal.returns-in-Err-Carrier
returns-in-Err-Carrier c =
    let a = c.args in
    let o = subst (λ (f : Unopened). OpenedIs a.most a.m.now (Err f)) c.in-Err-Carrier.field-0-is c.in-Err-Carrier.ensures in
    not_carried a.most a.m.now o.0 o.1

pub returns-else-opened-ne-UNICODE16 : goal.returns-else-opened-ne-UNICODE16
returns-else-opened-ne-UNICODE16 c =
    let a = c.args in
    let o = c.in-Ok.ensures in
    c.read_body.ensures a.most o.0
