use Rattle.lists.proofs.Kit.{rules}
use Rattle.reports.specs.declared.Asked.TheVariants.{Groups, Individuals, Lines, Key, QuickTexts, Home, Channels, System, StatusTexts, Hash}
use Rattle.report_reading.proofs.TypeLaws.{of_type, no_such_type, none_of}
use Rattle.lists.proofs.Kit.{arith}
use Rattle.report_reading.proofs.types.read_fields_of.Goals as goal

pub returns-in-136 : goal.returns-in-136
returns-in-136 c = of_type _ _ Groups c.in-136.is c.read_group.result c.read_group.ensures

pub returns-in-137 : goal.returns-in-137
returns-in-137 c = of_type _ _ Individuals c.in-137.is c.read_individual.result c.read_individual.ensures

pub returns-in-138 : goal.returns-in-138
returns-in-138 c = of_type _ _ Lines c.in-138.is c.read_line.result c.read_line.ensures

pub returns-in-139 : goal.returns-in-139
returns-in-139 c = of_type _ _ Key c.in-139.is c.read_key.result c.read_key.ensures

pub returns-in-140 : goal.returns-in-140
returns-in-140 c = of_type _ _ QuickTexts c.in-140.is c.read_quick.result c.read_quick.ensures

pub returns-in-141 : goal.returns-in-141
returns-in-141 c = of_type _ _ Home c.in-141.is c.read_home.result c.read_home.ensures

pub returns-in-142 : goal.returns-in-142
returns-in-142 c = of_type _ _ Channels c.in-142.is c.read_channel.result c.read_channel.ensures

pub returns-in-143 : goal.returns-in-143
returns-in-143 c = of_type _ _ System c.in-143.is c.read_system.result c.read_system.ensures

pub returns-in-144 : goal.returns-in-144
returns-in-144 c = of_type _ _ StatusTexts c.in-144.is c.read_status.result c.read_status.ensures

pub returns-in-191 : goal.returns-in-191
returns-in-191 c = of_type _ _ Hash c.in-191.is c.read_hashes.result c.read_hashes.ensures

pub returns-in_default : goal.returns-in_default
returns-in_default c =
    no_such_type _ _ (none_of (λ u. omega arith) (λ u. omega arith) (λ u. omega arith) (λ u. omega arith) (λ u. omega arith) (λ u. omega arith) (λ u. omega arith) (λ u. omega arith) (λ u. omega arith) (λ u. omega arith))
