use Rattle.lists.proofs.Kit.{rules, arith, refl}
use Rattle.joining.specs.declared.answers.Fault.TheVariants.{Size, Carrier, OtherType, Version, NoRequest, LeftOver}
use Rattle.packing_office.proofs.JoinBits.{fault_case}
use Rattle.packing_office.proofs.join.pack_fault.Goals as goal

pub returns-in-Size : goal.returns-in-Size
returns-in-Size c = (fault_case _ Size _ c.in-Size.is refl, omega arith)

pub returns-in-Carrier : goal.returns-in-Carrier
returns-in-Carrier c = (fault_case _ Carrier _ c.in-Carrier.is refl, omega arith)

pub returns-in-OtherType : goal.returns-in-OtherType
returns-in-OtherType c = (fault_case _ OtherType _ c.in-OtherType.is refl, omega arith)

pub returns-in-Version : goal.returns-in-Version
returns-in-Version c = (fault_case _ Version _ c.in-Version.is refl, omega arith)

pub returns-in-NoRequest : goal.returns-in-NoRequest
returns-in-NoRequest c = (fault_case _ NoRequest _ c.in-NoRequest.is refl, omega arith)

pub returns-in-LeftOver : goal.returns-in-LeftOver
returns-in-LeftOver c = (fault_case _ LeftOver _ c.in-LeftOver.is refl, omega arith)

pub returns-in-Unknown : goal.returns-in-Unknown
returns-in-Unknown c = (fault_case _ _ _ c.in-Unknown.is refl, omega arith)

pub returns-in-Field : goal.returns-in-Field
returns-in-Field c = (fault_case _ _ _ c.in-Field.is refl, omega arith)

pub returns-in-LastItem : goal.returns-in-LastItem
returns-in-LastItem c = (fault_case _ _ _ c.in-LastItem.is refl, omega arith)
