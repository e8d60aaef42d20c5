use Rattle.lists.proofs.Kit.{arith, subst}
use Rattle.reporting.specs.Asking.{AskedIs}
use Rattle.reporting.proofs.PlanTurns.{planning_start, planning_turn, planning_end, planning_unknown}
use Rattle.lists.proofs.Kit.{get_or}
use Rattle.reporting.proofs.planning.plan_report.Goals as goal

pub loop-ask-init : goal.loop-ask-init
loop-ask-init c =
    let a = c.args in
    (omega arith, planning_start a.limits a.types.now a.work.now a.room a.j)

pub step-requires : goal.step-requires
step-requires c =
    let p = c.loop-ask.invariant.1 in
    let m = c.requires.2 in
    (omega (arith, m, p.closed), omega (arith, m, p.own))

pub returns-in_default : goal.returns-in_default
returns-in_default c =
    let a = c.args in
    let l = c.loop-ask in
    planning_unknown a.limits a.types.now a.work.now a.room a.j l.ask l.w c.step.result (omega arith) (omega (arith, c.requires.2)) l.invariant.1 (subst (AskedIs (get_or a.types.now l.ask 0)) c.in_default.is c.asked_by.ensures) c.step.ensures

pub plan_table-w-requires : goal.plan_table-w-requires
plan_table-w-requires c =
    let p = c.loop-ask.invariant.1 in
    let k = c.requires in
    (k.0, k.1, omega (arith, k.2, p.closed), omega (arith, k.2, p.own))

pub loop-ask-preserved : goal.loop-ask-preserved
loop-ask-preserved c =
    let a = c.args in
    let l = c.loop-ask in
    (omega arith, planning_turn a.limits a.types.now a.work.now a.room a.j l.ask l.w c.plan_table-w.result _ (omega arith) l.invariant.1 (subst (AskedIs (get_or a.types.now l.ask 0)) c.in-Some.is c.asked_by.ensures) c.plan_table-w.ensures)

pub returns : goal.returns
returns c =
    let a = c.args in
    let l = c.loop-ask in
    planning_end a.limits a.types.now a.work.now a.room a.j l.ask l.w (omega arith) (omega (arith, c.requires.2)) l.invariant.1
