use Rattle.read_setting.specs.declared.reader.SettingFault.{SettingFault}
use Rattle.read_setting.specs.SettingAt.{SettingAt}
use Rattle.std.specs.Prelude.{Err}
use Rattle.lists.proofs.Kit.{subst}
use Rattle.requests.specs.Trying.{TryIs}
use Rattle.requests.proofs.RunLaws.{at_end, at_unknown, at_field}
use Rattle.requests.proofs.Steps.{step_taken, step_full}
use Rattle.requests.proofs.run.take_setting.Goals as goal

pub returns-in-Some : goal.returns-in-Some
returns-in-Some c =
    let a = c.args in
    let k = c.try_setting in
    let z = c.in-Ok.ensures in
    let y = subst (TryIs a.limits a.m.now c.in-Ok.setting a.sum a.work.now k.new.work) c.in-Some.is k.ensures in
    step_taken a.coding a.limits a.m.now (λ i. (c.type_inv.m i).fits) a.left a.at a.work.now k.new.work c.in-Ok.setting c.in-Ok.next a.sum _ _ z c.flags_of-flags.ensures y

pub returns-in_default : goal.returns-in_default
returns-in_default c =
    let a = c.args in
    let k = c.try_setting in
    let z = c.in-Ok.ensures in
    let y = subst (TryIs a.limits a.m.now c.in-Ok.setting a.sum a.work.now k.new.work) c.in_default.is k.ensures in
    step_full a.coding a.limits a.m.now (λ i. (c.type_inv.m i).fits) a.left a.at a.work.now k.new.work c.in-Ok.setting c.in-Ok.next a.sum z y

pub returns-in-Err-Missing : goal.returns-in-Err-Missing
returns-in-Err-Missing c =
    let a = c.args in
    let z = subst (λ (f : SettingFault). SettingAt a.coding a.left a.m.now a.at (Err f)) c.in-Err-Missing.field-0-is c.in-Err-Missing.ensures in
    λ was roomy holds is. at_end a.coding a.limits a.m.now (λ i. (c.type_inv.m i).fits) a.left was a.at z

pub returns-in-Err-Unknown : goal.returns-in-Err-Unknown
returns-in-Err-Unknown c =
    let a = c.args in
    let z = subst (λ (f : SettingFault). SettingAt a.coding a.left a.m.now a.at (Err f)) c.in-Err-Unknown.field-0-is c.in-Err-Unknown.ensures in
    λ was roomy holds is. at_unknown a.coding a.limits a.m.now (λ i. (c.type_inv.m i).fits) a.left was a.at z

pub returns-in-Err-Field : goal.returns-in-Err-Field
returns-in-Err-Field c =
    let a = c.args in
    let z = subst (λ (f : SettingFault). SettingAt a.coding a.left a.m.now a.at (Err f)) c.in-Err-Field.field-0-is c.in-Err-Field.ensures in
    λ was roomy holds is. at_field a.coding a.limits a.m.now (λ i. (c.type_inv.m i).fits) a.left was a.at z
