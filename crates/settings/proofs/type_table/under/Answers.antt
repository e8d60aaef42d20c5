use Rattle.lists.proofs.Kit.{ap}
use Rattle.writing.specs.Settings.{unicode16, eight_bit}
use Rattle.settings.proofs.TypeTableLaws.{columns_are}
use Rattle.settings.proofs.type_table.under.Goals as goal

pub returns-in-Unicode16 : goal.returns-in-Unicode16
returns-in-Unicode16 c = λ k h. columns_are unicode16 c.in-Unicode16.is (ap (λ r. r.0) h) (ap (λ r. r.1) h) (ap (λ r. r.2) h) (ap (λ r. r.5) h)

pub returns-in-EightBit : goal.returns-in-EightBit
returns-in-EightBit c = λ k h. columns_are eight_bit c.in-EightBit.is (ap (λ r. r.0) h) (ap (λ r. r.3) h) (ap (λ r. r.4) h) (ap (λ r. r.5) h)
