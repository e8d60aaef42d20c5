use Rattle.lists.proofs.Kit.{◌∙◌, arith}
use Rattle.screen.proofs.SlotLaws.{spot_as, spot_before, spot_from}
use Rattle.screen.proofs.spots.spot_of.Goals as goal

pub returns-in-QuickText : goal.returns-in-QuickText
returns-in-QuickText c = spot_as c.in-QuickText.is

pub returns-then-n-lt32 : goal.returns-then-n-lt32
returns-then-n-lt32 c = spot_before c.in-StatusText.n c.if-n-lt32.true ∙ spot_as c.in-StatusText.is

pub returns-else-n-lt32 : goal.returns-else-n-lt32
returns-else-n-lt32 c = spot_from c.in-StatusText.n (omega arith) ∙ spot_as c.in-StatusText.is

pub returns-in-Group : goal.returns-in-Group
returns-in-Group c = spot_as c.in-Group.is

pub returns-in-Individual : goal.returns-in-Individual
returns-in-Individual c = spot_as c.in-Individual.is

pub returns-in-LineSlot : goal.returns-in-LineSlot
returns-in-LineSlot c = spot_as c.in-LineSlot.is

pub returns-in-GroupContact : goal.returns-in-GroupContact
returns-in-GroupContact c = spot_as c.in-GroupContact.is

pub returns-in-IndividualContact : goal.returns-in-IndividualContact
returns-in-IndividualContact c = spot_as c.in-IndividualContact.is

pub returns-in-Line : goal.returns-in-Line
returns-in-Line c = spot_as c.in-Line.is

pub returns-in-NoTable : goal.returns-in-NoTable
returns-in-NoTable c = spot_as c.in-NoTable.is
