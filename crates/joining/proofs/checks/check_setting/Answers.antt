use Rattle.read_setting.specs.declared.reader.SettingFault.{SettingFault}
use Rattle.read_setting.specs.SettingAt.{SettingAt}
use Rattle.std.specs.Prelude.{Err}
use Rattle.lists.proofs.Kit.{some, subst}
use Rattle.joining.proofs.CheckLaws.{at_end, at_unknown, at_field, step_next}
use Rattle.joining.proofs.checks.check_setting.Goals as goal

pub returns-in-Ok : goal.returns-in-Ok
returns-in-Ok c = let a = c.args in
    step_next a.coding a.left a.m.now a.at c.in-Ok.setting c.in-Ok.next c.is_last.result c.in-Ok.ensures c.is_last.ensures

pub returns-in-Err-Missing : goal.returns-in-Err-Missing
returns-in-Err-Missing c = let a = c.args in
    at_end (Unit {0}) (λ s t. some t) a.coding a.m.now a.left tt a.at (subst (λ (f : SettingFault). SettingAt a.coding a.left a.m.now a.at (Err f)) c.in-Err-Missing.field-0-is c.in-Err-Missing.ensures)

pub returns-in-Err-Unknown : goal.returns-in-Err-Unknown
returns-in-Err-Unknown c = let a = c.args in
    at_unknown (Unit {0}) (λ s t. some t) a.coding a.m.now a.left tt a.at (subst (λ (f : SettingFault). SettingAt a.coding a.left a.m.now a.at (Err f)) c.in-Err-Unknown.field-0-is c.in-Err-Unknown.ensures)

pub returns-in-Err-Field : goal.returns-in-Err-Field
returns-in-Err-Field c = let a = c.args in
    at_field (Unit {0}) (λ s t. some t) a.coding a.m.now a.left tt a.at (subst (λ (f : SettingFault). SettingAt a.coding a.left a.m.now a.at (Err f)) c.in-Err-Field.field-0-is c.in-Err-Field.ensures)
