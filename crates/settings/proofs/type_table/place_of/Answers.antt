use Rattle.lists.proofs.Kit.{◌-◌, arith, ◌∙◌}
use Rattle.settings.proofs.TypeTableLaws.{type_bytes, type_in_order}
use Rattle.settings.proofs.type_table.place_of.Goals as goal

pub returns-in-200-to-211 : goal.returns-in-200-to-211
returns-in-200-to-211 c = (omega arith, type_in_order (c.args.b - 200) (omega arith) ∙ omega arith)

pub returns-in_default : goal.returns-in_default
returns-in_default c = λ k e. absurd (omega (arith, type_bytes k e (omega arith)))

pub returns-in_default-2 : goal.returns-in_default-2
returns-in_default-2 c = λ k e. absurd (omega (arith, type_bytes k e (omega arith)))
