use Rattle.read_setting.specs.declared.reader.SettingFault.{SettingFault}
use Rattle.read_setting.specs.SettingAt.{SettingAt}
use Rattle.std.specs.Prelude.{Err}
use Rattle.lists.proofs.Kit.{◌-◌, arith, subst}
use Rattle.tables.specs.Limits.{handheld}
use Rattle.requests.proofs.RunLaws.{at_end, at_unknown, at_field}
use Rattle.plain_judge.specs.Judging.{TryIs}
use Rattle.plain_judge.proofs.JudgeLaws.{step_taken, step_full}
use Rattle.plain_judge.proofs.judge.judge_setting.Goals as goal

pub returns-in-Some : goal.returns-in-Some
returns-in-Some c =
    let a = c.args in
    let k = c.try_setting in
    let first = c.at_settings in
    let z = c.in-Ok.ensures in
    let y = subst (TryIs a.log.now a.m.now (record { logged = a.logged; first = first.result; passed = a.passed }) c.in-Ok.setting a.weights.now k.new.weights) c.in-Some.is k.ensures in
    step_taken a.log.now a.logged a.m.now a.request a.at a.taken a.passed a.weights.now (omega (arith, c.ranges.taken)) c.in-Ok.setting c.in-Ok.next first.result z first.ensures k.new.weights _ _ c.flags_of.ensures c.hash_of.ensures y

pub returns-in_default : goal.returns-in_default
returns-in_default c =
    let a = c.args in
    let k = c.try_setting in
    let first = c.at_settings in
    let z = c.in-Ok.ensures in
    let y = subst (TryIs a.log.now a.m.now (record { logged = a.logged; first = first.result; passed = a.passed }) c.in-Ok.setting a.weights.now k.new.weights) c.in_default.is k.ensures in
    step_full a.log.now a.logged a.m.now a.request a.at a.taken a.passed a.weights.now (omega (arith, c.ranges.taken)) c.in-Ok.setting c.in-Ok.next first.result z first.ensures k.new.weights (λ i. (c.shared_slice_known-2-1.given i).fits) y

pub returns-in-Err-Missing : goal.returns-in-Err-Missing
returns-in-Err-Missing c =
    let a = c.args in
    let z = subst (λ (f : SettingFault). SettingAt a.request.coding (a.request.count - a.taken - 1) a.m.now a.at (Err f)) c.in-Err-Missing.field-0-is c.in-Err-Missing.ensures in
    λ ds was l t logged along less. at_end a.request.coding handheld a.m.now (λ i. (c.shared_slice_known-2-1.given i).fits) (a.request.count - a.taken - 1) t a.at z

pub returns-in-Err-Unknown : goal.returns-in-Err-Unknown
returns-in-Err-Unknown c =
    let a = c.args in
    let z = subst (λ (f : SettingFault). SettingAt a.request.coding (a.request.count - a.taken - 1) a.m.now a.at (Err f)) c.in-Err-Unknown.field-0-is c.in-Err-Unknown.ensures in
    λ ds was l t logged along less. at_unknown a.request.coding handheld a.m.now (λ i. (c.shared_slice_known-2-1.given i).fits) (a.request.count - a.taken - 1) t a.at z

pub returns-in-Err-Field : goal.returns-in-Err-Field
returns-in-Err-Field c =
    let a = c.args in
    let z = subst (λ (f : SettingFault). SettingAt a.request.coding (a.request.count - a.taken - 1) a.m.now a.at (Err f)) c.in-Err-Field.field-0-is c.in-Err-Field.ensures in
    λ ds was l t logged along less. at_field a.request.coding handheld a.m.now (λ i. (c.shared_slice_known-2-1.given i).fits) (a.request.count - a.taken - 1) t a.at z
