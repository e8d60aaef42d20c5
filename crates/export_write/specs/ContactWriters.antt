-- Group and individual contacts as the writers see them, by one table of cases, and what writing them promises.
use Rattle.std.specs.Prelude.{ℕ, ◌+◌, ◌*◌, ◌/◌, ◌%◌, ◌≤◌, List, [], ◌∷◌, length}
use Rattle.tables.specs.declared.members.Members.{Members}
use Rattle.tables.specs.declared.members.Members.TheVariants.{OfGroups, OfIndividuals}
use Rattle.tables.specs.Layout.{member_width}
use Rattle.tables.specs.MemberKinds.{MemberIn}
use Rattle.tables.specs.Members.{member_ok, member_bytes}
use Rattle.export_write.specs.declared.writers.Settings.{Settings}
use Rattle.export_write.specs.ContactSettings.{contact_settings}
use Rattle.export_write.specs.Writers.{ListIn, WritesTable}

-- the lent bytes are a table of contacts
abbrev pub ContactsIn : (w : Members) → List ℕ → List (MemberIn w) → Type 0
ContactsIn w = ListIn (member_ok w) member_width (member_bytes w)

-- how many bytes stand between DataLength and Count: the operation and the flags
abbrev pub flag_size : Members → ℕ
flag_size OfGroups = 2
flag_size OfIndividuals = 1

-- how many bytes the replace has: type, DataLength, operation and flags, Count; and at most an add, which has an address and a text behind them
abbrev pub clear_room : Members → ℕ
clear_room w = 4 + flag_size w

abbrev pub contact_room : Members → ℕ
contact_room w = 41 + flag_size w

-- the replace, and an add for each of n contacts
abbrev pub contacts_room : Members → ℕ → ℕ
contacts_room w n = clear_room w + n * contact_room w

-- a table of at most 254 contacts was written
abbrev pub WritesContacts : Members → (region before after : List ℕ) → Settings → Type 0
WritesContacts w region before after r =
    WritesTable (length region ≤ 254 * member_width) (ContactsIn w region) (contact_settings w) (contacts_room w (length region / member_width)) before after r

-- ---- inner steps: an add

-- its type byte
abbrev pub contact_type : Members → ℕ
contact_type OfGroups = 0xC8
contact_type OfIndividuals = 0xC9

-- its bytes between DataLength and Count, of the byte that keeps the flags
abbrev pub flag_bytes : Members → ℕ → List ℕ
flag_bytes OfGroups f = (64 + f / 4) ∷ (f % 4 * 64) ∷ []
flag_bytes OfIndividuals f = (64 + f % 16 * 4) ∷ []
