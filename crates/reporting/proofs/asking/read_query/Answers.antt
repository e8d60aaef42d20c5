use Rattle.read_carrier.specs.declared.carrier.Unopened.{Unopened}
use Rattle.read_carrier.specs.Message.{OpenedIs}
use Rattle.std.specs.Prelude.{Err}
use Rattle.lists.proofs.Kit.{subst, not-true, not-false}
use Rattle.read_carrier.proofs.CarrierLaws.{opens_as}
use Rattle.reporting.specs.Asking.{TypesIs}
use Rattle.reporting.proofs.AskLaws.{query_other, query_version, query_none}
use Rattle.reporting.proofs.asking.read_query.Goals as goal

pub returns-then-opened-ne-QUERY : goal.returns-then-opened-ne-QUERY
returns-then-opened-ne-QUERY c =
    let a = c.args in
    let o = c.in-Ok.ensures in
    query_other a.most a.m.now o.0 o.1 c.if-opened-ne-QUERY.true

pub returns-then-opened-ne-VERSION : goal.returns-then-opened-ne-VERSION
returns-then-opened-ne-VERSION c =
    let a = c.args in
    let o = c.in-Ok.ensures in
    query_version a.most a.m.now o.0 o.1 c.if-opened-ne-QUERY.false c.if-opened-ne-VERSION.true

pub has_types-requires : goal.has_types-requires
has_types-requires c =
    let a = c.args in
    let o = c.in-Ok.ensures in
    (_, opens_as c.if-opened-ne-VERSION.false c.if-opened-ne-QUERY.false o.1)

pub returns-then-not-has_types : goal.returns-then-not-has_types
returns-then-not-has_types c =
    let a = c.args in
    let o = c.in-Ok.ensures in
    query_none a.most a.m.now o.0 o.1 c.if-opened-ne-QUERY.false c.if-opened-ne-VERSION.false (subst (TypesIs a.m.now) (not-true c.has_types.result c.if-not-has_types.true-raw) c.has_types.ensures)

pub returns-in-Err-Size : goal.returns-in-Err-Size
returns-in-Err-Size c =
    let a = c.args in
    subst (λ (f : Unopened). OpenedIs a.most a.m.now (Err f)) c.in-Err-Size.field-0-is c.in-Err-Size.ensures

pub returns-in-Err-Carrier : goal.returns-in-Err-Carrier
returns-in-Err-Carrier c =
    let a = c.args in
    subst (λ (f : Unopened). OpenedIs a.most a.m.now (Err f)) c.in-Err-Carrier.field-0-is c.in-Err-Carrier.ensures

pub returns-else-not-has_types : goal.returns-else-not-has_types
returns-else-not-has_types c =
    let a = c.args in
    let o = c.in-Ok.ensures in
    (o.0, subst (TypesIs a.m.now) (not-false c.has_types.result c.if-not-has_types.false-raw) c.has_types.ensures)
