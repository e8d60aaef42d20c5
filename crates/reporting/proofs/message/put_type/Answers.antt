use Rattle.lists.proofs.Kit.{arith, subst}
use Rattle.reporting.specs.Asking.{AskedIs}
use Rattle.reporting.proofs.PutLaws.{type_put, error_put}
use Rattle.reporting.proofs.message.put_type.Goals as goal

pub returns-in_default : goal.returns-in_default
returns-in_default c =
    let a = c.args in
    let w = c.put_bytes-end in
    error_put a.limits a.byte a.work.now a.spot a.buffer.now w.new.buffer w.result _ (omega arith) (subst (AskedIs a.byte) c.in_default.is c.asked_by.ensures) (omega arith) c.requires.3 w.ensures

pub returns : goal.returns
returns c =
    let a = c.args in
    let w = c.put_table in
    type_put a.limits a.byte a.work.now a.spot a.buffer.now w.new.buffer _ w.result (subst (AskedIs a.byte) c.in-Some.is c.asked_by.ensures) w.ensures
