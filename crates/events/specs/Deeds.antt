-- What each entry of a setting does to its table, as a reader sees it who keeps no table: one form for the tables of all kinds.
use Rattle.std.specs.Prelude.{ℕ, suc, ◌+◌, ◌-◌, ◌*◌, Bool, false, cond, List, [], ◌∷◌, ◌++◌, map, eqb}
use Rattle.writing.specs.declared.Kind.{Kind}
use Rattle.writing.specs.declared.Kind.TheVariants.{GroupContacts, IndividualContacts, Lines, Key, QuickTexts, Home, Channels, System, StatusTexts, Group, Individual, LineSlot, Last}
use Rattle.writing.specs.declared.Operation.{Operation}
use Rattle.writing.specs.declared.Operation.TheVariants.{Add, Delete, Replace}
use Rattle.writing.specs.Settings.{Text, Number, Setting, kind, group_contacts, individual_contacts, lines, key, quick_texts, home, channels, system, status_texts, group, individual, line_slot, last}
use Rattle.writing.specs.Writing.{bit}
use Rattle.tables.specs.declared.members.Members.TheVariants.{OfGroups, OfIndividuals}
use Rattle.tables.specs.Apply.{line_of, contact_of}
use Rattle.tables.specs.Owns.{only}
use Rattle.tables.specs.Tables.{LineKey, line_key, GroupMember}
use Rattle.events.specs.Events.{Event, clear, put, remove}
use Rattle.events.specs.Settings.{Puts, Names, Does, member_at, line_at, line_events, contact_events, channel_events, quick_events, status_events, slot_events}

-- ---- what is seen of an entry

-- its key, the number that it is named by, whether it has no row, and its text
pub record Seen : Type 0 where
  pub key : ℕ
  pub name : ℕ
  pub hidden : Bool
  pub text : Text

-- digits as one number, behind a 1, so that no two numbers have the same
abbrev pub digits_behind : ℕ → Number → ℕ
digits_behind n [] = n
digits_behind n (d ∷ ds) = digits_behind (n * 10 + d) ds

abbrev pub number_code : Number → ℕ
number_code ds = digits_behind 1 ds

-- "The identity of a line is its IDtype together with its digits"
abbrev pub line_code : LineKey → ℕ
line_code k = 2 * number_code k.number + bit k.pabx

-- "A background group gets no row on the screen"
abbrev pub background : GroupMember → Bool
background g = eqb g.flags.attribute 1

-- what is seen of an entry of each kind; nothing is seen of the tables that have neither rows nor a limit
abbrev pub seen_as : (k : Kind) → Puts k → Seen
seen_as GroupContacts g = record { key = g.address.0; name = g.address.0; hidden = background g; text = g.text }
seen_as IndividualContacts i = record { key = i.address.0; name = i.address.0; hidden = false; text = i.text }
seen_as Lines l = record { key = line_code (line_key l); name = number_code l.number; hidden = false; text = l.text }
seen_as Key x = record { key = 0; name = 0; hidden = false; text = [] }
seen_as QuickTexts e = record { key = e.index; name = 0; hidden = false; text = e.text }
seen_as Home x = record { key = 0; name = 0; hidden = false; text = [] }
seen_as Channels n = record { key = n; name = 0; hidden = false; text = [] }
seen_as System x = record { key = 0; name = 0; hidden = false; text = [] }
seen_as StatusTexts e = record { key = e.index - 32; name = 0; hidden = false; text = e.text }
seen_as Group a = record { key = a.0; name = a.1.address.0; hidden = background a.1; text = a.1.text }
seen_as Individual a = record { key = a.0; name = a.1.address.0; hidden = false; text = a.1.text }
seen_as LineSlot a = record { key = a.0; name = number_code a.1.number; hidden = false; text = a.1.text }
seen_as Last x = record { key = 0; name = 0; hidden = false; text = [] }

-- what a key is seen as
abbrev pub code_of : (k : Kind) → Names k → ℕ
code_of GroupContacts n = n
code_of IndividualContacts n = n
code_of Lines j = line_code j
code_of Key n = 0
code_of QuickTexts n = n
code_of Home n = 0
code_of Channels n = n
code_of System n = 0
code_of StatusTexts n = n
code_of Group n = n
code_of Individual n = n
code_of LineSlot n = n
code_of Last n = 0

-- and an event
abbrev pub as_seen : (k : Kind) → Does k → Event Seen ℕ
as_seen k clear = clear
as_seen k (put n a) = put n (seen_as k a)
as_seen k (remove j) = remove (code_of k j)

-- the kinds of which something is seen
abbrev pub Spoken : Kind → Type 0
Spoken GroupContacts = Unit {0}
Spoken IndividualContacts = Unit {0}
Spoken Lines = Unit {0}
Spoken Key = ⊥
Spoken QuickTexts = Unit {0}
Spoken Home = ⊥
Spoken Channels = Unit {0}
Spoken System = ⊥
Spoken StatusTexts = Unit {0}
Spoken Group = Unit {0}
Spoken Individual = Unit {0}
Spoken LineSlot = Unit {0}
Spoken Last = ⊥

-- ---- deeds

-- nothing is done; the table of a kind is emptied; an entry is put there; the entries with a key go
pub data Deed : Type 0 where
  nothing : Deed
  clears : Kind → Deed
  puts : Kind → Seen → Deed
  removes : Kind → ℕ → Deed

-- what an operation does with an entry, of which this is seen
abbrev pub doing : Kind → Operation → Seen → Deed
doing k Add a = puts k a
doing k Delete a = removes k a.key
doing k Replace a = puts k a

-- "Replace empties the table, then adds each entry in order": what it does before its entries
abbrev pub opening : Kind → Operation → Deed
opening k Add = nothing
opening k Delete = nothing
opening k Replace = clears k

-- the deeds of a list of entries
abbrev pub listing : {E : Type 0} → Kind → Operation → (E → Seen) → List E → List Deed
listing k o seen es = opening k o ∷ map (λ e. doing k o (seen e)) es

-- the deeds of a setting
abbrev pub deeds : Setting → List Deed
deeds (group_contacts o f es) = listing GroupContacts o (λ e. seen_as GroupContacts (contact_of f e)) es
deeds (individual_contacts o f es) = listing IndividualContacts o (λ e. seen_as IndividualContacts (contact_of f e)) es
deeds (lines o f es) = listing Lines o (λ e. seen_as Lines (line_of f e)) es
deeds (key t f) = nothing ∷ []
deeds (quick_texts o es) = listing QuickTexts o (seen_as QuickTexts) es
deeds (home h) = nothing ∷ []
deeds (channels o ns) = listing Channels o (seen_as Channels) ns
deeds (system c) = nothing ∷ []
deeds (status_texts o es) = listing StatusTexts o (seen_as StatusTexts) es
deeds (group o f s) = doing Group o (seen_as Group (member_at f s)) ∷ []
deeds (individual o f s) = doing Individual o (seen_as Individual (member_at f s)) ∷ []
deeds (line_slot o f s) = doing LineSlot o (seen_as LineSlot (line_at f s)) ∷ []
deeds (last f h) = nothing ∷ []

-- of settings in turn
abbrev pub all_deeds : List Setting → List Deed
all_deeds [] = []
all_deeds (s ∷ l) = deeds s ++ all_deeds l

-- ---- the events of deeds: each entry's number is that of its deed, from n on

abbrev pub told : Kind → ℕ → List Deed → List (Event Seen ℕ)
told k n [] = []
told k n (nothing ∷ ds) = told k (suc n) ds
told k n (clears j ∷ ds) = cond (only j k) (clear ∷ told k (suc n) ds) (told k (suc n) ds)
told k n (puts j a ∷ ds) = cond (only j k) (put n a ∷ told k (suc n) ds) (told k (suc n) ds)
told k n (removes j c ∷ ds) = cond (only j k) (remove c ∷ told k (suc n) ds) (told k (suc n) ds)

-- entries with the numbers from n on
abbrev pub from_on : {E : Type 0} → ℕ → List E → List (ℕ × E)
from_on n [] = []
from_on n (e ∷ es) = (n, e) ∷ from_on (suc n) es

-- the events of a setting, whose first deed has number n, for its own table
abbrev pub events_from : ℕ → (s : Setting) → List (Does (kind s))
events_from n (group_contacts o f es) = contact_events OfGroups o f (from_on (suc n) es)
events_from n (individual_contacts o f es) = contact_events OfIndividuals o f (from_on (suc n) es)
events_from n (lines o f es) = line_events o f (from_on (suc n) es)
events_from n (key t f) = put n (record { target = t; flags = f }) ∷ []
events_from n (quick_texts o es) = quick_events o (from_on (suc n) es)
events_from n (home h) = put n h ∷ []
events_from n (channels o ns) = channel_events o (from_on (suc n) ns)
events_from n (system c) = put n c ∷ []
events_from n (status_texts o es) = status_events o (from_on (suc n) es)
events_from n (group o f s) = slot_events o n (member_at f s)
events_from n (individual o f s) = slot_events o n (member_at f s)
events_from n (line_slot o f s) = slot_events o n (line_at f s)
events_from n (last f h) = put n h ∷ []
