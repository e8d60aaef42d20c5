-- What stands in a row of the table of a kind, and what a reader finds there who keeps no table.
use Rattle.std.specs.Prelude.{ℕ, Bool, cond, List, map, eqb, ltb, get_or}
use Rattle.std.proofs.Math.Option.{Option, none, some}
use Rattle.writing.specs.declared.Kind.{Kind}
use Rattle.writing.specs.declared.Kind.TheVariants.{GroupContacts, IndividualContacts, Lines, Key, QuickTexts, Home, Channels, System, StatusTexts, Group, Individual, LineSlot, Last}
use Rattle.writing.specs.declared.HomeNumbers.{HomeNumbers}
use Rattle.writing.specs.declared.SystemCode.{SystemCode}
use Rattle.writing.specs.Settings.{Text, Hash}
use Rattle.tables.specs.declared.members.Members.TheVariants.{OfGroups, OfIndividuals}
use Rattle.tables.specs.Apply.{same_key}
use Rattle.tables.specs.Limits.{quick_places, status_places, slot_places}
use Rattle.tables.specs.MemberKinds.{contact_key}
use Rattle.tables.specs.Owns.{Own}
use Rattle.tables.specs.Tables as T
use Rattle.tables.specs.Tables.{Line, line_key, GroupMember, IndividualMember, fresh}
use Rattle.events.specs.Reading.{reading}
use Rattle.events.specs.Events.{Event, entry, look, row}
use Rattle.events.specs.Places.{spot}
use Rattle.events.specs.Channels.{living}
use Rattle.events.specs.Settings.{quick_place, quick_change, status_place, status_change, slot_place, slot_change, latest, Does}

-- ---- with a table

-- what a row has
abbrev pub Cell : Kind → Type 0
Cell GroupContacts = GroupMember
Cell IndividualContacts = IndividualMember
Cell Lines = Line
Cell Key = T.Key
Cell QuickTexts = Text
Cell Home = HomeNumbers
Cell Channels = ℕ
Cell System = SystemCode
Cell StatusTexts = Text
Cell Group = GroupMember
Cell Individual = IndividualMember
Cell LineSlot = Line
Cell Last = Hash

-- row i, if there is one: by position in a list, by place, and a table of one entry in every row
abbrev pub in_row : (k : Kind) → Own k → ℕ → Option (Cell k)
in_row GroupContacts x i = get_or (map some x) i none
in_row IndividualContacts x i = get_or (map some x) i none
in_row Lines x i = get_or (map some x) i none
in_row Key x i = some x
in_row QuickTexts x i = get_or x i none
in_row Home x i = some x
in_row Channels x i = get_or (map some x) i none
in_row System x i = some x
in_row StatusTexts x i = get_or x i none
in_row Group x i = get_or x i none
in_row Individual x i = get_or x i none
in_row LineSlot x i = get_or x i none
in_row Last x i = some x

-- ---- with no table

-- in a list by a key: the i-th entry whose key is found where it was put
abbrev pub listed_row : {A K : Type 0} → (A → K) → (K → K → Bool) → List (Event A K) → ℕ → Option A
listed_row key same es i = entry (row key same (λ κ. look key same κ es) es i)

-- in one of n places
abbrev pub placed_row : {A B : Type 0} → (A → ℕ) → (Option B → A → Option B) → ℕ → List (Event A ℕ) → ℕ → Option B
placed_row place change n es i = cond (ltb i n) (spot place change i es) none

abbrev pub read_row : (k : Kind) → List (Does k) → ℕ → Option (Cell k)
read_row GroupContacts es i = listed_row (contact_key OfGroups) eqb es i
read_row IndividualContacts es i = listed_row (contact_key OfIndividuals) eqb es i
read_row Lines es i = listed_row line_key same_key es i
read_row Key es i = some (reading latest es fresh.key)
read_row QuickTexts es i = placed_row quick_place quick_change quick_places es i
read_row Home es i = some (reading latest es fresh.home)
read_row Channels es i = get_or (map some (living es)) i none
read_row System es i = some (reading latest es fresh.system)
read_row StatusTexts es i = placed_row status_place status_change status_places es i
read_row Group es i = placed_row slot_place slot_change slot_places es i
read_row Individual es i = placed_row slot_place slot_change slot_places es i
read_row LineSlot es i = placed_row slot_place slot_change slot_places es i
read_row Last es i = some (reading latest es fresh.hash)
