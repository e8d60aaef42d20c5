-- Groups and individuals in slots and lists of contacts, by one table of cases: which are allowed, and their bytes.
use Rattle.std.specs.Prelude.{ℕ, List}
use Rattle.tables.specs.declared.members.Members.{Members}
use Rattle.tables.specs.declared.members.Members.TheVariants.{OfGroups, OfIndividuals}
use Rattle.writing.specs.declared.Kind.TheVariants.{GroupContacts, IndividualContacts}
use Rattle.tables.specs.Allowed.{GroupOk, IndividualOk}
use Rattle.tables.specs.Layout.{group_flags, group_bytes, individual_flags, individual_bytes, group_contacts_at, individual_contacts_at}
use Rattle.tables.specs.MemberKinds.{FlagsIn, MemberIn}
use Rattle.tables.specs.Owns.{put_own}
use Rattle.tables.specs.Tables.{Tables}

-- what a slot or a contact may hold
abbrev pub member_ok : (w : Members) → MemberIn w → Type 0
member_ok OfGroups = GroupOk
member_ok OfIndividuals = IndividualOk

-- the byte of the flags, and all bytes
abbrev pub flags_of : (w : Members) → FlagsIn w → ℕ
flags_of OfGroups = group_flags
flags_of OfIndividuals = individual_flags

abbrev pub member_bytes : (w : Members) → MemberIn w → List ℕ
member_bytes OfGroups = group_bytes
member_bytes OfIndividuals = individual_bytes

-- the list of contacts
abbrev pub contacts_in : (w : Members) → Tables → List (MemberIn w)
contacts_in OfGroups t = t.group_contacts
contacts_in OfIndividuals t = t.individual_contacts

-- ---- inner steps: no promise cites these

-- the tables with another list of contacts, and where it stands
abbrev pub put_contacts : (w : Members) → Tables → List (MemberIn w) → Tables
put_contacts OfGroups t xs = put_own GroupContacts t xs
put_contacts OfIndividuals t xs = put_own IndividualContacts t xs

abbrev pub contacts_at : Members → ℕ
contacts_at OfGroups = group_contacts_at
contacts_at OfIndividuals = individual_contacts_at
