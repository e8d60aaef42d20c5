-- The tables that can be asked for, as slots of a working copy: how a report is made. No promise cites these.
use Rattle.std.specs.Prelude.{ℕ, ◌+◌, ◌%◌, ◌<◌, ◌≡◌, List, [], ◌∷◌, replicate}
use Rattle.std.proofs.Math.Option.{Option, none, some}
use Rattle.slots.specs.Slots.{front, u16}
use Rattle.writing.specs.declared.HomeNumbers.{HomeNumbers}
use Rattle.writing.specs.declared.SystemCode.{SystemCode}
use Rattle.writing.specs.Ranges.{InChannel}
use Rattle.writing.specs.Settings.{Text, Hash}
use Rattle.tables.specs.declared.limits.Limits.{Limits}
use Rattle.tables.specs.Allowed.{QuickOk, StatusOk, GroupOk, IndividualOk, LineOk, TargetOk, HomeOk, SystemOk, HashOk}
use Rattle.tables.specs.Layout.{hash_bytes, key_bytes, home_bytes, system_bytes, quick_bytes, status_bytes, group_bytes, individual_bytes, line_bytes, hash_size, key_size, home_size, system_size, quick_width, status_width, member_width, channel_width, line_width, count_size, key_at, home_at, system_at, quick_at, status_at, group_contacts_at, individual_contacts_at, channels_at, lines_at}
use Rattle.tables.specs.Limits.{quick_places, status_places, contact_places}
use Rattle.tables.specs.Tables.{Tables, GroupMember, IndividualMember, Line, Key}
use Rattle.reports.specs.declared.Asked.{Asked}
use Rattle.reports.specs.declared.Asked.TheVariants.{Groups, Individuals, Lines, Key as AKey, QuickTexts, Home, Channels, System, StatusTexts, Hash as AHash}
use Rattle.reports.specs.Asked.{kept_hash}
use Rattle.reports.specs.Items.{Item, group, individual, line, key, quick, home, channel, system, status, hash, item_bytes}

-- what a slot holds
abbrev pub EntryOf : Asked → Type 0
EntryOf Groups = GroupMember
EntryOf Individuals = IndividualMember
EntryOf Lines = Line
EntryOf AKey = Key
EntryOf QuickTexts = Text
EntryOf Home = HomeNumbers
EntryOf Channels = ℕ
EntryOf System = SystemCode
EntryOf StatusTexts = Text
EntryOf AHash = Hash

-- what the rules ask of it
abbrev pub EntryOk : (a : Asked) → EntryOf a → Type 0
EntryOk Groups x = GroupOk x
EntryOk Individuals x = IndividualOk x
EntryOk Lines x = LineOk x
EntryOk AKey x = TargetOk x.target
EntryOk QuickTexts x = QuickOk x
EntryOk Home x = HomeOk x
EntryOk Channels x = InChannel x
EntryOk System x = SystemOk x
EntryOk StatusTexts x = StatusOk x
EntryOk AHash x = HashOk x

-- its bytes
abbrev pub entry_bytes : (a : Asked) → EntryOf a → List ℕ
entry_bytes Groups x = group_bytes x
entry_bytes Individuals x = individual_bytes x
entry_bytes Lines x = line_bytes x
entry_bytes AKey x = key_bytes x
entry_bytes QuickTexts x = quick_bytes x
entry_bytes Home x = home_bytes x
entry_bytes Channels x = u16 x
entry_bytes System x = system_bytes x
entry_bytes StatusTexts x = status_bytes x
entry_bytes AHash x = hash_bytes x

-- how wide a slot is, how many there are, and where the first one starts
abbrev pub slot_width : Asked → ℕ
slot_width Groups = member_width
slot_width Individuals = member_width
slot_width Lines = line_width
slot_width AKey = key_size
slot_width QuickTexts = quick_width
slot_width Home = home_size
slot_width Channels = channel_width
slot_width System = system_size
slot_width StatusTexts = status_width
slot_width AHash = hash_size

abbrev pub slot_count : Limits → Asked → ℕ
slot_count lim Groups = contact_places
slot_count lim Individuals = contact_places
slot_count lim Lines = lim.lines
slot_count lim AKey = 1
slot_count lim QuickTexts = quick_places
slot_count lim Home = 1
slot_count lim Channels = lim.channels
slot_count lim System = 1
slot_count lim StatusTexts = status_places
slot_count lim AHash = 1

abbrev pub slots_start : Limits → Asked → ℕ
slots_start lim Groups = group_contacts_at + count_size
slots_start lim Individuals = individual_contacts_at + count_size
slots_start lim Lines = lines_at lim + count_size
slots_start lim AKey = key_at
slots_start lim QuickTexts = quick_at
slots_start lim Home = home_at
slots_start lim Channels = channels_at + count_size
slots_start lim System = system_at
slots_start lim StatusTexts = status_at
slots_start lim AHash = 0

-- what stands in them
abbrev pub slots_of : Limits → Tables → (a : Asked) → List (Option (EntryOf a))
slots_of lim t Groups = front contact_places t.group_contacts
slots_of lim t Individuals = front contact_places t.individual_contacts
slots_of lim t Lines = front lim.lines t.lines
slots_of lim t AKey = some t.key ∷ []
slots_of lim t QuickTexts = t.quick
slots_of lim t Home = some t.home ∷ []
slots_of lim t Channels = front lim.channels t.channels
slots_of lim t System = some t.system ∷ []
slots_of lim t StatusTexts = t.status
slots_of lim t AHash = some t.hash ∷ []

-- a slot of the key, the home numbers, the system code and the hash is never empty
abbrev pub MayBeEmpty : Asked → Type 0
MayBeEmpty Groups = Unit {0}
MayBeEmpty Individuals = Unit {0}
MayBeEmpty Lines = Unit {0}
MayBeEmpty AKey = ⊥
MayBeEmpty QuickTexts = Unit {0}
MayBeEmpty Home = ⊥
MayBeEmpty Channels = Unit {0}
MayBeEmpty System = ⊥
MayBeEmpty StatusTexts = Unit {0}
MayBeEmpty AHash = ⊥

-- the bytes are the slot of this entry, or an empty one
abbrev pub InSlot : (a : Asked) → List ℕ → Option (EntryOf a) → Type 0
InSlot a s none = MayBeEmpty a × (s ≡ replicate (slot_width a) 0)
InSlot a s (some x) = EntryOk a x × (s ≡ entry_bytes a x)

-- a quick text's place is its index, and a status text's its code less 32
abbrev pub InPlaces : Asked → ℕ → Type 0
InPlaces Groups p = Unit {0}
InPlaces Individuals p = Unit {0}
InPlaces Lines p = Unit {0}
InPlaces AKey p = Unit {0}
InPlaces QuickTexts p = p < quick_places
InPlaces Home p = Unit {0}
InPlaces Channels p = Unit {0}
InPlaces System p = Unit {0}
InPlaces StatusTexts p = p < status_places
InPlaces AHash p = Unit {0}

-- the parameter of the entry in this place, before which so many entries stand
abbrev pub item_at : (a : Asked) (place rank : ℕ) → EntryOf a → Item
item_at Groups p r g = group (r % 16) g
item_at Individuals p r x = individual (r % 16) x
item_at Lines p r l = line (r % 16) l
item_at AKey p r k = key k
item_at QuickTexts p r us = quick p us
item_at Home p r h = home h
item_at Channels p r n = channel n (r % 4096)
item_at System p r s = system s
item_at StatusTexts p r us = status (p + 32) (r % 256) us
item_at AHash p r h = hash (kept_hash h)

-- its bytes; an empty slot has none
abbrev pub slot_item : (a : Asked) (place rank : ℕ) → Option (EntryOf a) → List ℕ
slot_item a p r none = []
slot_item a p r (some x) = item_bytes (item_at a p r x)
