use Rattle.lists.proofs.Kit.{rules, refl}
use Rattle.packing_office.proofs.Packing.{parameter_case, flags_case, value_case}
use Rattle.report_reading.specs.declared.items.Item.TheVariants.{NoHash}
use Rattle.packing_office.proofs.parameter.said_by.Goals as goal

pub returns-in-Group : goal.returns-in-Group
returns-in-Group c = parameter_case _ _ _ c.in-Group.is (flags_case _ _ _ _ _ _ c.known.ensures c.group_bits.ensures)

pub returns-in-Individual : goal.returns-in-Individual
returns-in-Individual c = parameter_case _ _ _ c.in-Individual.is (flags_case _ _ _ _ _ _ c.known-in-Individual.ensures c.individual_bits.ensures)

pub returns-in-Line : goal.returns-in-Line
returns-in-Line c = parameter_case _ _ _ c.in-Line.is (flags_case _ _ _ _ _ _ c.known-in-Line.ensures c.line_bits.ensures)

pub returns-in-Key : goal.returns-in-Key
returns-in-Key c = parameter_case _ _ _ c.in-Key.is c.key_of.ensures

pub returns-in-Quick : goal.returns-in-Quick
returns-in-Quick c = parameter_case _ _ _ c.in-Quick.is c.known-in-Quick.ensures

pub returns-in-Home : goal.returns-in-Home
returns-in-Home c = parameter_case _ _ _ c.in-Home.is (value_case _ _ _ _ _ _ c.known-in-Home.ensures c.home_bits.ensures)

pub returns-in-Channel : goal.returns-in-Channel
returns-in-Channel c = parameter_case _ _ _ c.in-Channel.is c.known-in-Channel.ensures

pub returns-in-System : goal.returns-in-System
returns-in-System c = parameter_case _ _ _ c.in-System.is (value_case _ _ _ _ _ _ c.known-in-System.ensures c.system_bits.ensures)

pub returns-in-Status : goal.returns-in-Status
returns-in-Status c = parameter_case _ _ _ c.in-Status.is c.known-in-Status.ensures

pub returns-in-Hash : goal.returns-in-Hash
returns-in-Hash c = parameter_case _ _ _ c.in-Hash.is c.known-in-Hash.ensures

pub returns-in-NoHash : goal.returns-in-NoHash
returns-in-NoHash c = parameter_case _ NoHash _ c.in-NoHash.is c.known-in-NoHash.ensures

pub returns-in-Unknown : goal.returns-in-Unknown
returns-in-Unknown c = parameter_case _ _ _ c.in-Unknown.is refl
