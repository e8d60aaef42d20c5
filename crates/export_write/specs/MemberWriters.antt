-- Group and individual slots as the writers see them, by one table of cases, and what writing them promises.
use Rattle.std.specs.Prelude.{ℕ, ◌+◌, ◌*◌, ◌≡◌, cond, List, length, get_or}
use Rattle.std.proofs.Math.Option.{Option}
use Rattle.slots.specs.Slots.{zeros?, Placed}
use Rattle.writing.specs.Settings.{Setting, group, individual}
use Rattle.tables.specs.declared.members.Members.{Members}
use Rattle.tables.specs.declared.members.Members.TheVariants.{OfGroups, OfIndividuals}
use Rattle.tables.specs.Layout.{member_width, member_size}
use Rattle.tables.specs.Limits.{slot_places}
use Rattle.tables.specs.MemberKinds.{MemberIn}
use Rattle.tables.specs.Members.{member_ok, member_bytes}
use Rattle.export_write.specs.declared.writers.Settings.{Settings}
use Rattle.export_write.specs.EntrySettings.{slots, slot_setting, no_group_flags, no_individual_flags}
use Rattle.export_write.specs.Writers.{SlotIn, WritesTable}

-- the lent bytes are the slot of an entry, or an empty one
abbrev pub MemberSlotIn : (w : Members) → List ℕ → Option (MemberIn w) → Type 0
MemberSlotIn w = SlotIn (member_ok w) member_width (member_bytes w)

-- the type byte
abbrev pub member_type : Members → ℕ
member_type OfGroups = 0xD1
member_type OfIndividuals = 0xD2

-- the kept flags as they stand in the first 16 bits, between the operation and the index
abbrev pub flags_at : Members → ℕ → ℕ
flags_at OfGroups f = f * 64
flags_at OfIndividuals f = f * 1024

-- an inner step: the first 16 bits of the setting of a slot with these bytes
abbrev pub member_head : Members → ℕ → List ℕ → ℕ
member_head w i p = cond (zeros? p) 2 1 * 16384 + flags_at w (get_or p 0 0) + i

-- the setting of a slot, and those of a table from an index on
abbrev pub member_setting : (w : Members) → ℕ → Option (MemberIn w) → Setting
member_setting OfGroups = slot_setting group no_group_flags (record { 0 = 0 })
member_setting OfIndividuals = slot_setting individual no_individual_flags (record { 0 = 0 })

abbrev pub member_settings : (w : Members) → ℕ → List (Option (MemberIn w)) → List Setting
member_settings w = slots (member_setting w)

-- the lent bytes are a table of sixteen slots
abbrev pub MembersIn : (w : Members) → List ℕ → List (Option (MemberIn w)) → Type 0
MembersIn w region os = Placed (member_ok w) member_width (member_bytes w) slot_places os region

-- it was written
abbrev pub WritesMembers : Members → (region before after : List ℕ) → Settings → Type 0
WritesMembers w region before after r = WritesTable (length region ≡ member_size) (MembersIn w region) (member_settings w 0) 672 before after r
