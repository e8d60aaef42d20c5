use Rattle.lists.proofs.Kit.{rules}
use Rattle.packing_office.proofs.Packing.{parameter_packed, no_parameter}
use Rattle.packing_office.proofs.parameter.pack_parameter.Goals as goal

pub returns-in-Some : goal.returns-in-Some
returns-in-Some c = parameter_packed _ c.in-Some.item _ _ _ c.in-Some.is c.said_by-p.ensures c.pack_said.ensures

pub returns-in-None : goal.returns-in-None
returns-in-None c = no_parameter _ c.in-None.is
