use Rattle.lists.proofs.Kit.{inl, inr}
use Rattle.writing.specs.declared.Kind.TheVariants as kinds
use Rattle.read_deeds.proofs.EntryLaws.{entry_by, entry_none}
use borrow.Enum.Refused.{opened as is_one_of}
use Rattle.read_deeds.proofs.entries.next_entry.Goals as goal

pub returns-in-GroupContacts : goal.returns-in-GroupContacts
returns-in-GroupContacts c =
    let a = c.args in
    elim c.in-GroupContacts.is [
      | inl e ↦ entry_by kinds.GroupContacts a.m.now a.left c.next_contact.result e c.next_contact.ensures
      | inr e ↦ entry_by kinds.IndividualContacts a.m.now a.left c.next_contact.result e c.next_contact.ensures
    ]

pub returns-in-Lines : goal.returns-in-Lines
returns-in-Lines c =
    let a = c.args in
    entry_by kinds.Lines a.m.now a.left c.next_line.result c.in-Lines.is c.next_line.ensures

pub returns-in-QuickTexts : goal.returns-in-QuickTexts
returns-in-QuickTexts c =
    let a = c.args in
    entry_by kinds.QuickTexts a.m.now a.left c.next_quick.result c.in-QuickTexts.is c.next_quick.ensures

pub returns-in-StatusTexts : goal.returns-in-StatusTexts
returns-in-StatusTexts c =
    let a = c.args in
    entry_by kinds.StatusTexts a.m.now a.left c.next_status.result c.in-StatusTexts.is c.next_status.ensures

pub returns-in-Channels : goal.returns-in-Channels
returns-in-Channels c =
    let a = c.args in
    entry_by kinds.Channels a.m.now a.left c.next_channel.result c.in-Channels.is c.next_channel.ensures

pub returns-in_default : goal.returns-in_default
returns-in_default c =
    let a = c.args in
    entry_none a.m.now a.left c.stay.result (is_one_of c.in_default.in_default-own.keys6)
