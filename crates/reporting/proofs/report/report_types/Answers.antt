use Rattle.lists.proofs.Kit.{arith}
use Rattle.lists.proofs.Bytes.{bytes_all}
use Rattle.reporting.proofs.ReportLaws.{plan_as, says_many, says_none, says_0}
use Rattle.reporting.proofs.report.report_types.Goals as goal

pub plan_report-plan-requires : goal.plan_report-plan-requires
plan_report-plan-requires c = let k = c.requires in (k.0, k.1, k.2)

pub overflow_add-total : goal.overflow_add-total
overflow_add-total c = omega (arith, c.plan_report-plan.ensures.closed)

pub returns-then-total-gt-MESSAGES : goal.returns-then-total-gt-MESSAGES
returns-then-total-gt-MESSAGES c = λ rep query store q s see.
    let a = c.args in
    let p = plan_as c.room_in-room.ensures c.messages_before-j.ensures c.plan_report-plan.ensures in
    says_many a.limits query a.index store a.work.now a.buffer.now a.types.now s see q c.plan_report-plan.result p (omega arith)

pub returns-then-index-lt1 : goal.returns-then-index-lt1
returns-then-index-lt1 c = λ rep query store q s see.
    let a = c.args in
    let p = plan_as c.room_in-room.ensures c.messages_before-j.ensures c.plan_report-plan.ensures in
    says_none a.limits query a.index store a.work.now a.buffer.now a.types.now s see q c.plan_report-plan.result p (omega arith) (λ o l. omega arith)

pub returns-then-total-wanted : goal.returns-then-total-wanted
returns-then-total-wanted c = λ rep query store q s see.
    let a = c.args in
    let p = plan_as c.room_in-room.ensures c.messages_before-j.ensures c.plan_report-plan.ensures in
    says_none a.limits query a.index store a.work.now a.buffer.now a.types.now s see q c.plan_report-plan.result p (omega arith) (λ o l. omega arith)

pub put_items-end-requires : goal.put_items-end-requires
put_items-end-requires c =
    let k = c.requires in
    (k.0, k.1, c.plan_report-plan.ensures.ranked)

pub returns : goal.returns
returns c = λ rep query store q s see.
    let a = c.args in
    let p = plan_as c.room_in-room.ensures c.messages_before-j.ensures c.plan_report-plan.ensures in
    says_0 a.limits query a.index store a.work.now a.buffer.now a.types.now s see q c.plan_report-plan.result p (omega arith) (omega arith) (omega arith) rep (bytes_all a.types.now (λ i. (c.shared_slice_known-1.given i).fits)) c.requires.3 c.put_items-end.new.buffer c.start_report-length.new.buffer c.put_items-end.result c.start_report-length.result c.put_items-end.ensures c.start_report-length.ensures
