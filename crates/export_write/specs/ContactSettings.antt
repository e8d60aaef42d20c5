-- The settings that export group and individual contacts: "C8 and C9 are cleared and then added in order, as lines are".
use Rattle.std.specs.Prelude.{false, List, [], ◌∷◌, map}
use Rattle.writing.specs.declared.Operation.{Operation}
use Rattle.writing.specs.declared.Operation.TheVariants.{Add, Replace}
use Rattle.writing.specs.Settings.{Addressed, Setting, group_contacts, individual_contacts}
use Rattle.tables.specs.declared.members.Members.{Members}
use Rattle.tables.specs.declared.members.Members.TheVariants.{OfGroups, OfIndividuals}
use Rattle.tables.specs.MemberKinds.{FlagsIn, AddressIn, MemberIn}
use Rattle.export_write.specs.EntrySettings.{no_individual_flags}

-- the flags of the replace that clears: all 0, but for the attribute of a group, which is not 00
abbrev pub clearing_flags : (w : Members) → FlagsIn w
clearing_flags OfGroups = record { attribute = 1; broadcast = false; encryption = false; ovcm = false; emergency = false; priority = 0 }
clearing_flags OfIndividuals = no_individual_flags

-- contacts of either kind as a setting
abbrev pub contacts_setting : (w : Members) → Operation → FlagsIn w → List (Addressed (AddressIn w)) → Setting
contacts_setting OfGroups = group_contacts
contacts_setting OfIndividuals = individual_contacts

-- an add of one contact
abbrev pub contact_add : (w : Members) → MemberIn w → Setting
contact_add w x = contacts_setting w Add x.flags (record { address = x.address; text = x.text } ∷ [])

-- a replace with Count 0, then one add per contact in order
abbrev pub contact_settings : (w : Members) → List (MemberIn w) → List Setting
contact_settings w xs = contacts_setting w Replace (clearing_flags w) [] ∷ map (contact_add w) xs
