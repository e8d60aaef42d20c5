-- Which settings each part exports, and their request's bytes: document 01, "Export parts", and since A4 parts 8 to 10.
use Rattle.std.specs.Prelude.{ℕ, ◌+◌, List, [], ◌∷◌, ◌++◌, map, length, take, drop}
use Rattle.writing.specs.declared.Operation.TheVariants.{Replace}
use Rattle.writing.specs.Canonical.{plain, canonical_all}
use Rattle.writing.specs.Carrier.{start_bytes, carrier, coding_type}
use Rattle.writing.specs.Settings.{Setting, lines, key, quick_texts, home, channels, system, status_texts, group, individual, unicode16}
use Rattle.writing.specs.Writing.{request_head}
use Rattle.tables.specs.Tables.{Tables}
use Rattle.tables.specs.declared.members.Members.TheVariants.{OfGroups, OfIndividuals}
use Rattle.export_write.specs.ContactSettings.{contact_settings}
use Rattle.export_write.specs.LineSettings.{no_line_flags, line_add, line_slot_setting}
use Rattle.export_write.specs.EntrySettings.{entries, quick_add, no_group_flags, no_individual_flags, slot_setting, slots}
use Rattle.export.specs.declared.parts.Part.{Part}
use Rattle.export.specs.declared.parts.Part.TheVariants.{Lines, Fixed, QuickTexts, Channels, StatusTexts, Groups, Individuals, GroupContacts, IndividualContacts, LineSlots}

-- the parts in the order of their numbers
abbrev pub ten : List Part
ten =
    Lines ∷ Fixed ∷ QuickTexts ∷ Channels ∷ StatusTexts ∷ Groups ∷ Individuals ∷ GroupContacts ∷ IndividualContacts ∷ LineSlots ∷ []

-- parts 1 to 10
abbrev pub part_number : Part → ℕ
part_number Lines = 1
part_number Fixed = 2
part_number QuickTexts = 3
part_number Channels = 4
part_number StatusTexts = 5
part_number Groups = 6
part_number Individuals = 7
part_number GroupContacts = 8
part_number IndividualContacts = 9
part_number LineSlots = 10

-- "1 lines (a replace with flags and Count 0, then one add per contact in order), 2 CB, CD, CF, 3 quick texts (replace with the first 63
-- by index, and one add if there are 64), 4 channels in order, 5 status texts by code (each part a single replace with all entries), 6 groups, 7 individuals";
-- "Export grows by parts 8, 9 and 10 .. C8 and C9 are cleared and then added in order, as lines are"
abbrev pub exported : Part → Tables → List Setting
exported Lines t = lines Replace no_line_flags [] ∷ map line_add t.lines
exported Fixed t = key t.key.target t.key.flags ∷ home t.home ∷ system t.system ∷ []
exported QuickTexts t = quick_texts Replace (take 63 (entries 0 t.quick)) ∷ map quick_add (drop 63 (entries 0 t.quick))
exported Channels t = channels Replace t.channels ∷ []
exported StatusTexts t = status_texts Replace (entries 32 t.status) ∷ []
exported Groups t = slots (slot_setting group no_group_flags (record { 0 = 0 })) 0 t.groups
exported Individuals t = slots (slot_setting individual no_individual_flags (record { 0 = 0 })) 0 t.individuals
exported GroupContacts t = contact_settings OfGroups t.group_contacts
exported IndividualContacts t = contact_settings OfIndividuals t.individual_contacts
exported LineSlots t = slots line_slot_setting 0 t.line_slots

-- a request of these settings, without FF, of their canonical writing: "No FF; true lengths"
abbrev pub data_bytes : List Setting → List ℕ
data_bytes ss = plain (request_head (length ss)) ++ canonical_all unicode16 ss

abbrev pub request_bytes : List Setting → List ℕ
request_bytes ss = start_bytes ++ plain (carrier (2 + length (data_bytes ss)) (coding_type unicode16)) ++ data_bytes ss
