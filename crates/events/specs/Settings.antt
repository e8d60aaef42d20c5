-- The events of a setting, whose entries were read at places, by kind; and what events make of the table of a kind.
use Rattle.std.specs.Prelude.{ℕ, suc, ◌-◌, ◌≤◌, ◌<◌, List, [], ◌∷◌, map, eqb}
use Rattle.std.proofs.Math.Option.{Option, some}
use Rattle.lists.specs.Every.{All}
use Rattle.plan.specs.declared.numbers.GroupAddress.{GroupAddress}
use Rattle.plan.specs.declared.numbers.IndividualAddress.{IndividualAddress}
use Rattle.writing.specs.declared.Kind.{Kind}
use Rattle.writing.specs.declared.Kind.TheVariants.{GroupContacts, IndividualContacts, Lines, Key, QuickTexts, Home, Channels, System, StatusTexts, Group, Individual, LineSlot, Last}
use Rattle.writing.specs.declared.GroupFlags.{GroupFlags}
use Rattle.writing.specs.declared.HomeNumbers.{HomeNumbers}
use Rattle.writing.specs.declared.IndividualFlags.{IndividualFlags}
use Rattle.writing.specs.declared.KeyFlags.{KeyFlags}
use Rattle.writing.specs.declared.KeyTarget.{KeyTarget}
use Rattle.writing.specs.declared.LastFlags.{LastFlags}
use Rattle.writing.specs.declared.LineFlags.{LineFlags}
use Rattle.writing.specs.declared.Operation.{Operation}
use Rattle.writing.specs.declared.Operation.TheVariants.{Add, Delete, Replace}
use Rattle.writing.specs.declared.SystemCode.{SystemCode}
use Rattle.writing.specs.Settings.{Text, Number, Contact, Addressed, Entry, Slot, Hash, Setting, kind, group_contacts, individual_contacts, lines, key, quick_texts, home, channels, system, status_texts, group, individual, line_slot, last}
use Rattle.tables.specs.declared.limits.Limits.{Limits}
use Rattle.tables.specs.declared.members.Members.{Members}
use Rattle.tables.specs.declared.members.Members.TheVariants.{OfGroups, OfIndividuals}
use Rattle.tables.specs.Apply.{line_of, entry_key, same_key, contact_of, if_absent}
use Rattle.tables.specs.Limits.{quick_places, status_places, slot_places, contact_places}
use Rattle.tables.specs.MemberKinds.{FlagsIn, AddressIn, MemberIn, number_of, contact_key}
use Rattle.tables.specs.Owns.{Own}
use Rattle.tables.specs.Tables as T
use Rattle.tables.specs.Tables.{Line, LineKey, line_key, Member, GroupMember, IndividualMember}
use Rattle.events.specs.Events.{Event, clear, put, remove, step}
use Rattle.events.specs.Places.{place_step}
use Rattle.events.specs.Channels.{channel_do}

-- entries without the places where they were read
abbrev pub bare : {A : Type 0} → List (ℕ × A) → List A
bare es = map (λ e. e.1) es

-- "Replace empties the table, then adds each entry in order"
abbrev pub events_by : {E A K : Type 0} → (E → A) → (E → K) → Operation → List (ℕ × E) → List (Event A K)
events_by made named Add es = map (λ e. put e.0 (made e.1)) es
events_by made named Delete es = map (λ e. remove (named e.1)) es
events_by made named Replace es = clear ∷ map (λ e. put e.0 (made e.1)) es

-- the places of entries rise from n on, and are before m
abbrev pub Stands : {E : Type 0} → ℕ → ℕ → List (ℕ × E) → Type 0
Stands n m [] = n ≤ m
Stands n m (e ∷ es) = (n ≤ e.0) × Stands (suc e.0) m es

-- ---- by kind

abbrev pub line_events : Operation → LineFlags → List (ℕ × Contact) → List (Event Line LineKey)
line_events o f es = events_by (line_of f) (entry_key f) o es

abbrev pub contact_events : (w : Members) → Operation → FlagsIn w → List (ℕ × Addressed (AddressIn w)) → List (Event (MemberIn w) ℕ)
contact_events w o f es = events_by (contact_of f) (λ e. number_of w e.address) o es

abbrev pub channel_events : Operation → List (ℕ × ℕ) → List (Event ℕ ℕ)
channel_events o ns = events_by (λ c. c) (λ c. c) o ns

abbrev pub quick_events : Operation → List (ℕ × Entry) → List (Event Entry ℕ)
quick_events o es = events_by (λ e. e) (λ e. e.index) o es

abbrev pub status_events : Operation → List (ℕ × Entry) → List (Event Entry ℕ)
status_events o es = events_by (λ e. e) (λ e. e.index - 32) o es

-- a slot is set or emptied, and the others stand, whatever the operation: a member by its slot
abbrev pub slot_events : {A : Type 0} → Operation → ℕ → ℕ × A → List (Event (ℕ × A) ℕ)
slot_events Add n a = put n a ∷ []
slot_events Delete n a = remove a.0 ∷ []
slot_events Replace n a = put n a ∷ []

-- ---- where an entry goes, and what it makes of what stands there

abbrev pub quick_place : Entry → ℕ
quick_place e = e.index

abbrev pub quick_change : Option Text → Entry → Option Text
quick_change o e = if_absent o e.text

abbrev pub status_place : Entry → ℕ
status_place e = e.index - 32

abbrev pub status_change : Option Text → Entry → Option Text
status_change o e = some e.text

abbrev pub slot_place : {A : Type 0} → ℕ × A → ℕ
slot_place a = a.0

abbrev pub slot_change : {A : Type 0} → Option A → ℕ × A → Option A
slot_change o a = some a.1

-- a group or an individual with its slot, and a line with its slot
abbrev pub member_at : {Flags Address : Type 0} → Flags → Slot Address → ℕ × Member Flags Address
member_at f s = (s.index, record { flags = f; address = s.address; text = s.text })

abbrev pub line_at : LineFlags → Slot Number → ℕ × Line
line_at f s = (s.index, record { flags = f; number = s.address; text = s.text })

-- ---- the events for the table of a kind

-- what they put there
abbrev pub Puts : Kind → Type 0
Puts GroupContacts = GroupMember
Puts IndividualContacts = IndividualMember
Puts Lines = Line
Puts Key = T.Key
Puts QuickTexts = Entry
Puts Home = HomeNumbers
Puts Channels = ℕ
Puts System = SystemCode
Puts StatusTexts = Entry
Puts Group = ℕ × GroupMember
Puts Individual = ℕ × IndividualMember
Puts LineSlot = ℕ × Line
Puts Last = Hash

-- and by what they name what goes: nothing goes where each setting overwrites
abbrev pub Names : Kind → Type 0
Names GroupContacts = ℕ
Names IndividualContacts = ℕ
Names Lines = LineKey
Names Key = ⊥
Names QuickTexts = ℕ
Names Home = ⊥
Names Channels = ℕ
Names System = ⊥
Names StatusTexts = ℕ
Names Group = ℕ
Names Individual = ℕ
Names LineSlot = ℕ
Names Last = ⊥

abbrev pub Does : Kind → Type 0
Does k = Event (Puts k) (Names k)

-- "CB, CD and CF overwrite": what was put last stands
abbrev pub latest : {A K : Type 0} → Event A K → A → A
latest clear x = x
latest (put n a) x = a
latest (remove k) x = x

-- what one event makes of the table: none where there is no room
abbrev pub run : Limits → (k : Kind) → Does k → Own k → Option (Own k)
run lim GroupContacts v x = step (contact_key OfGroups) eqb contact_places v x
run lim IndividualContacts v x = step (contact_key OfIndividuals) eqb contact_places v x
run lim Lines v x = step line_key same_key lim.lines v x
run lim Key v x = some (latest v x)
run lim QuickTexts v x = some (place_step quick_place quick_change quick_places v x)
run lim Home v x = some (latest v x)
run lim Channels v x = channel_do lim.channels v x
run lim System v x = some (latest v x)
run lim StatusTexts v x = some (place_step status_place status_change status_places v x)
run lim Group v x = some (place_step slot_place slot_change slot_places v x)
run lim Individual v x = some (place_step slot_place slot_change slot_places v x)
run lim LineSlot v x = some (place_step slot_place slot_change slot_places v x)
run lim Last v x = some (latest v x)

-- the events of a setting, for its own table
pub data Its : (s : Setting) → List (Does (kind s)) → Type 0 where
  its_group_contacts : {o : Operation} {f : GroupFlags} (es : List (ℕ × Addressed GroupAddress)) → Its (group_contacts o f (bare es)) (contact_events OfGroups o f es)
  its_individual_contacts : {o : Operation} {f : IndividualFlags} (es : List (ℕ × Addressed IndividualAddress)) → Its (individual_contacts o f (bare es)) (contact_events OfIndividuals o f es)
  its_lines : {o : Operation} {f : LineFlags} (es : List (ℕ × Contact)) → Its (lines o f (bare es)) (line_events o f es)
  its_key : {g : KeyTarget} {f : KeyFlags} (n : ℕ) → Its (key g f) (put n (record { target = g; flags = f }) ∷ [])
  its_quick_texts : {o : Operation} (es : List (ℕ × Entry)) → Its (quick_texts o (bare es)) (quick_events o es)
  its_home : {h : HomeNumbers} (n : ℕ) → Its (home h) (put n h ∷ [])
  its_channels : {o : Operation} (ns : List (ℕ × ℕ)) → Its (channels o (bare ns)) (channel_events o ns)
  its_system : {c : SystemCode} (n : ℕ) → Its (system c) (put n c ∷ [])
  its_status_texts : {o : Operation} (es : List (ℕ × Entry)) → Its (status_texts o (bare es)) (status_events o es)
  its_group : {o : Operation} {f : GroupFlags} {s : Slot GroupAddress} (n : ℕ) → Its (group o f s) (slot_events o n (member_at f s))
  its_individual : {o : Operation} {f : IndividualFlags} {s : Slot IndividualAddress} (n : ℕ) → Its (individual o f s) (slot_events o n (member_at f s))
  its_line_slot : {o : Operation} {f : LineFlags} {s : Slot Number} (n : ℕ) → Its (line_slot o f s) (slot_events o n (line_at f s))
  its_last : {f : LastFlags} {h : Hash} (n : ℕ) → Its (last f h) (put n h ∷ [])

-- the index of a setting's entry is that of a place
abbrev pub Indexed : Setting → Type 0
Indexed (group_contacts o f es) = Unit {0}
Indexed (individual_contacts o f es) = Unit {0}
Indexed (lines o f es) = Unit {0}
Indexed (key g f) = Unit {0}
Indexed (quick_texts o es) = All (λ e. e.index < quick_places) es
Indexed (home h) = Unit {0}
Indexed (channels o ns) = Unit {0}
Indexed (system c) = Unit {0}
Indexed (status_texts o es) = All (λ e. e.index - 32 < status_places) es
Indexed (group o f s) = s.index < slot_places
Indexed (individual o f s) = s.index < slot_places
Indexed (line_slot o f s) = s.index < slot_places
Indexed (last f h) = Unit {0}
