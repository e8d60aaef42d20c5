-- Groups and individuals by kind: "Group and individual addresses have the same 24 bits and are kept apart by kind".
use Rattle.std.specs.Prelude.{ℕ}
use Rattle.plan.specs.declared.numbers.GroupAddress.{GroupAddress}
use Rattle.plan.specs.declared.numbers.IndividualAddress.{IndividualAddress}
use Rattle.writing.specs.declared.GroupFlags.{GroupFlags}
use Rattle.writing.specs.declared.IndividualFlags.{IndividualFlags}
use Rattle.tables.specs.declared.members.Members.{Members}
use Rattle.tables.specs.declared.members.Members.TheVariants.{OfGroups, OfIndividuals}
use Rattle.tables.specs.Tables.{Member}

-- the flags of an entry, and its address
abbrev pub FlagsIn : Members → Type 0
FlagsIn OfGroups = GroupFlags
FlagsIn OfIndividuals = IndividualFlags

abbrev pub AddressIn : Members → Type 0
AddressIn OfGroups = GroupAddress
AddressIn OfIndividuals = IndividualAddress

-- what a slot or a contact holds
abbrev pub MemberIn : Members → Type 0
MemberIn w = Member (FlagsIn w) (AddressIn w)

-- the 24 bits of an address
abbrev pub number_of : (w : Members) → AddressIn w → ℕ
number_of OfGroups a = a.0
number_of OfIndividuals a = a.0

-- a contact's key: "group and individual contacts keyed by address"
abbrev pub contact_key : (w : Members) → MemberIn w → ℕ
contact_key w x = number_of w x.address
