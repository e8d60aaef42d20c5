use Rattle.lists.proofs.Kit.{subst, []}
use Rattle.plain_judge.specs.Judging.{RunIs}
use Rattle.plain_log.specs.Frames.{KeepIs}
use Rattle.plain.proofs.AskedLaws.{fault_asked, full_asked, kept_asked}
use Rattle.plain.proofs.asked.take_request.Goals as goal

pub returns-in-Err : goal.returns-in-Err
returns-in-Err c =
    let a = c.args in
    λ big seen is. fault_asked a.m.now a.area.now a.reply.now a.weights.now a.request a.seen seen is [] _ c.in-Err.fault c.turn_down.result (subst (RunIs a.area.now a.seen.deeds a.m.now a.request a.weights.now _) c.in-Err.is c.judge_settings.ensures) (c.turn_down.ensures big)

pub returns-in-Err-keep : goal.returns-in-Err-keep
returns-in-Err-keep c =
    let a = c.args in
    λ big seen is. full_asked a.m.now a.area.now a.reply.now a.weights.now a.request a.seen seen is _ c.in-Ok.item c.in-Ok.field-0-1 (subst (RunIs a.area.now a.seen.deeds a.m.now a.request a.weights.now _) c.in-Ok.is c.judge_settings.ensures) _ _ (subst (KeepIs a.area.now a.seen.used a.m.now _) c.in-Err-keep.is c.keep.ensures)

pub returns-in-Ok-keep : goal.returns-in-Ok-keep
returns-in-Ok-keep c =
    let a = c.args in
    λ big seen is. kept_asked a.m.now a.area.now a.reply.now a.weights.now a.request a.seen seen is _ c.in-Ok.item c.in-Ok.field-0-1 (subst (RunIs a.area.now a.seen.deeds a.m.now a.request a.weights.now _) c.in-Ok.is c.judge_settings.ensures) _ _ c.accept.result (subst (KeepIs a.area.now a.seen.used a.m.now _) c.in-Ok-keep.is c.keep.ensures) (c.accept.ensures big)
