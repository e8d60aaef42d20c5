-- What was sent for a key of a list: group and individual contacts, which are "keyed by address", and line contacts, by IDtype and digits.
use Rattle.std.specs.Prelude.{ℕ, Bool, cond, List, [], ◌∷◌, map}
use Rattle.std.proofs.Math.Option.{Option, none, some}
use Rattle.plan.specs.declared.numbers.GroupAddress.{GroupAddress}
use Rattle.plan.specs.declared.numbers.IndividualAddress.{IndividualAddress}
use Rattle.writing.specs.declared.Operation.{Operation}
use Rattle.writing.specs.declared.Operation.TheVariants.{Add, Delete, Replace}
use Rattle.writing.specs.Settings.{Setting, group_contacts, individual_contacts, lines, key, quick_texts, home, channels, system, status_texts, group, individual, line_slot, last}
use Rattle.tables.specs.declared.members.Members.{Members}
use Rattle.tables.specs.declared.members.Members.TheVariants.{OfGroups, OfIndividuals}
use Rattle.tables.specs.Apply.{has_key, line_of, has_address, contact_of, with_room}
use Rattle.tables.specs.MemberKinds.{AddressIn, MemberIn}
use Rattle.tables.specs.Tables.{Line, LineKey, GroupMember, IndividualMember}
use Rattle.screen.specs.declared.rows.Row.{Row}
use Rattle.screen.specs.declared.rows.Row.TheVariants.{GroupContact, IndividualContact}
use Rattle.screen.specs.Rows.{Caption, group_row, individual_row}

-- the entry that has a key, by the test that says which do: the first, of a table in which no two have it
abbrev pub found : {A : Type 0} → (A → Bool) → List A → Option A
found has [] = none
found has (x ∷ l) = cond (has x) (some x) (found has l)

-- the last of these entries that has it, or else the one before them
abbrev pub last_or : {A : Type 0} → (A → Bool) → Option A → List A → Option A
last_or has o [] = o
last_or has o (x ∷ l) = last_or has (cond (has x) (some x) o) l

-- what an operation with these entries leaves under a key, if it is one for that key: an add the last entry that has it, a delete of it nothing,
-- a replace the last entry that has it, or nothing
abbrev pub under_key : {A : Type 0} → (A → Bool) → Operation → List A → Option (Option A)
under_key has Add es = with_room some (last_or has none es)
under_key has Delete es = with_room (λ x. none) (last_or has none es)
under_key has Replace es = some (last_or has none es)

-- what a setting leaves of the group contact with the address a
abbrev pub to_group_contact : GroupAddress → Setting → Option (Option GroupMember)
to_group_contact a (group_contacts o f es) = under_key (has_address OfGroups a) o (map (contact_of f) es)
to_group_contact a (individual_contacts o f es) = none
to_group_contact a (lines o f es) = none
to_group_contact a (key t f) = none
to_group_contact a (quick_texts o es) = none
to_group_contact a (home h) = none
to_group_contact a (channels o ns) = none
to_group_contact a (system s) = none
to_group_contact a (status_texts o es) = none
to_group_contact a (group o f s) = none
to_group_contact a (individual o f s) = none
to_group_contact a (line_slot o f s) = none
to_group_contact a (last f h) = none

-- and of the individual contact with it
abbrev pub to_individual_contact : IndividualAddress → Setting → Option (Option IndividualMember)
to_individual_contact a (group_contacts o f es) = none
to_individual_contact a (individual_contacts o f es) = under_key (has_address OfIndividuals a) o (map (contact_of f) es)
to_individual_contact a (lines o f es) = none
to_individual_contact a (key t f) = none
to_individual_contact a (quick_texts o es) = none
to_individual_contact a (home h) = none
to_individual_contact a (channels o ns) = none
to_individual_contact a (system s) = none
to_individual_contact a (status_texts o es) = none
to_individual_contact a (group o f s) = none
to_individual_contact a (individual o f s) = none
to_individual_contact a (line_slot o f s) = none
to_individual_contact a (last f h) = none

-- and of the line with the key k: "The identity of a line is its IDtype together with its digits"
abbrev pub to_line : LineKey → Setting → Option (Option Line)
to_line k (group_contacts o f es) = none
to_line k (individual_contacts o f es) = none
to_line k (lines o f es) = under_key (has_key k) o (map (line_of f) es)
to_line k (key t f) = none
to_line k (quick_texts o es) = none
to_line k (home h) = none
to_line k (channels o ns) = none
to_line k (system s) = none
to_line k (status_texts o es) = none
to_line k (group o f s) = none
to_line k (individual o f s) = none
to_line k (line_slot o f s) = none
to_line k (last f h) = none

-- the two of contacts by kind
abbrev pub to_contact : (w : Members) → AddressIn w → Setting → Option (Option (MemberIn w))
to_contact OfGroups = to_group_contact
to_contact OfIndividuals = to_individual_contact

-- "Rows go by position": a contact's row, and what stands in it
abbrev pub contact_row : Members → ℕ → Row
contact_row OfGroups n = GroupContact n
contact_row OfIndividuals n = IndividualContact n

abbrev pub contact_caption : (w : Members) → MemberIn w → Option Caption
contact_caption OfGroups g = group_row g
contact_caption OfIndividuals i = some (individual_row i)
