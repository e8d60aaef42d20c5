use Rattle.lists.proofs.Kit.{rules, refl}
use Rattle.report_reading.specs.declared.messages.ReportRead.TheVariants.{Size, Carrier, OtherType, Version, NoReport}
use Rattle.packing_office.proofs.Packing.{message_case, report_case}
use Rattle.packing_office.proofs.message.pack_message.Goals as goal

pub returns-in-Size : goal.returns-in-Size
returns-in-Size c = message_case _ Size _ c.in-Size.is (λ items n f. refl)

pub returns-in-Carrier : goal.returns-in-Carrier
returns-in-Carrier c = message_case _ Carrier _ c.in-Carrier.is (λ items n f. refl)

pub returns-in-OtherType : goal.returns-in-OtherType
returns-in-OtherType c = message_case _ OtherType _ c.in-OtherType.is (λ items n f. refl)

pub returns-in-Version : goal.returns-in-Version
returns-in-Version c = message_case _ Version _ c.in-Version.is (λ items n f. refl)

pub returns-in-NoReport : goal.returns-in-NoReport
returns-in-NoReport c = message_case _ NoReport _ c.in-NoReport.is (λ items n f. refl)

pub returns-in-Report : goal.returns-in-Report
returns-in-Report c = report_case _ c.in-Report.total c.in-Report.index c.in-Report.count c.in-Report.is
