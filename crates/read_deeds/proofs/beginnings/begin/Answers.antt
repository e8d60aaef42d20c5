use Rattle.lists.proofs.Kit.{rules}
use Rattle.settings.specs.declared.settings.Setting.TheVariants.{GroupContacts, IndividualContacts, Lines, QuickTexts, Channels, StatusTexts}
use Rattle.read_deeds.proofs.BeginLaws.{begins_as, groups_begun, individuals_begun, lines_begun, quick_begun, channels_begun, status_begun, unlisted}
use borrow.Enum.Refused.{opened as is_one_of}
use Rattle.read_deeds.proofs.beginnings.begin.Goals as goal

pub returns-in-GroupContacts : goal.returns-in-GroupContacts
returns-in-GroupContacts c =
    let a = c.args in
    let b = c.begin_list in
    begins_as a.m.now b.result a.setting (GroupContacts c.in-GroupContacts.operation c.in-GroupContacts.flags c.in-GroupContacts.entries) c.in-GroupContacts.is (groups_begun a.m.now c.in-GroupContacts.operation c.in-GroupContacts.entries b.result c.in-GroupContacts.flags b.ensures)

pub returns-in-IndividualContacts : goal.returns-in-IndividualContacts
returns-in-IndividualContacts c =
    let a = c.args in
    let b = c.begin_list-in-IndividualContacts in
    begins_as a.m.now b.result a.setting (IndividualContacts c.in-IndividualContacts.operation c.in-IndividualContacts.field-1 c.in-IndividualContacts.entries) c.in-IndividualContacts.is (individuals_begun a.m.now c.in-IndividualContacts.operation c.in-IndividualContacts.entries b.result c.in-IndividualContacts.field-1 b.ensures)

pub returns-in-Lines : goal.returns-in-Lines
returns-in-Lines c =
    let a = c.args in
    let b = c.begin_list-in-Lines in
    begins_as a.m.now b.result a.setting (Lines c.in-Lines.operation c.in-Lines.flags c.in-Lines.entries) c.in-Lines.is (lines_begun a.m.now c.in-Lines.operation c.in-Lines.entries b.result c.in-Lines.flags b.ensures)

pub returns-in-QuickTexts : goal.returns-in-QuickTexts
returns-in-QuickTexts c =
    let a = c.args in
    let b = c.begin_list-in-QuickTexts in
    begins_as a.m.now b.result a.setting (QuickTexts c.in-QuickTexts.operation c.in-QuickTexts.entries) c.in-QuickTexts.is (quick_begun a.m.now c.in-QuickTexts.operation c.in-QuickTexts.entries b.result b.ensures)

pub returns-in-Channels : goal.returns-in-Channels
returns-in-Channels c =
    let a = c.args in
    let b = c.begin_list-in-Channels in
    begins_as a.m.now b.result a.setting (Channels c.in-Channels.operation c.in-Channels.entries) c.in-Channels.is (channels_begun a.m.now c.in-Channels.operation c.in-Channels.entries b.result b.ensures)

pub returns-in-StatusTexts : goal.returns-in-StatusTexts
returns-in-StatusTexts c =
    let a = c.args in
    let b = c.begin_list-in-StatusTexts in
    begins_as a.m.now b.result a.setting (StatusTexts c.in-StatusTexts.operation c.in-StatusTexts.entries) c.in-StatusTexts.is (status_begun a.m.now c.in-StatusTexts.operation c.in-StatusTexts.entries b.result b.ensures)

pub returns-in_default : goal.returns-in_default
returns-in_default c = c.begin_slot.ensures (unlisted c.args.setting (is_one_of c.in_default.in_default-own.keys7))
