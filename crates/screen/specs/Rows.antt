-- What stands in a row of the screen, what is shown of it, where its text stands, and the tests of the calls: document 01, "Numbers, channels, screen".
use Rattle.std.specs.Prelude.{ℕ, zero, suc, ◌+◌, ◌*◌, ◌-◌, ◌/◌, ◌%◌, ◌<◌, ◌≡◌, cond, List, [], ◌∷◌, ◌++◌, map, eqb, ltb, get_or}
use Rattle.std.proofs.Math.Option.{Option, none, some}
use Rattle.lists.specs.Ladder.{Ladder, rung, foot}
use Rattle.plan.specs.declared.numbers.GroupAddress.{GroupAddress}
use Rattle.plan.specs.declared.numbers.IndividualAddress.{IndividualAddress}
use Rattle.plan.specs.Numbers.{Individual as IndividualPlan, Group as GroupPlan}
use Rattle.slots.specs.Slots.{flat, u16}
use Rattle.writing.specs.Settings.{Text, Number}
use Rattle.tables.specs.declared.limits.Limits.{Limits}
use Rattle.tables.specs.declared.limits.Texts.{Texts}
use Rattle.tables.specs.declared.limits.Texts.TheVariants.{Placed, Shared}
use Rattle.tables.specs.Forms.{start_in}
use Rattle.tables.specs.Layout.{count_size, quick_width, status_width, member_width, line_width}
use Rattle.tables.specs.SharedLayout.{text_start as shared_start}
use Rattle.tables.specs.Store.{StoreOf, Holds}
use Rattle.tables.specs.Apply.{and_then}
use Rattle.tables.specs.Tables.{Line as LineEntry, GroupMember, IndividualMember, Tables}
use Rattle.screen.specs.declared.rows.Refusal.{Refusal}
use Rattle.screen.specs.declared.rows.Refusal.TheVariants.{ScratchSize, NotAStore, Absent}
use Rattle.screen.specs.declared.rows.Row.{Row}
use Rattle.screen.specs.declared.rows.Row.TheVariants.{Line, QuickText, StatusText, Group, Individual, GroupContact, IndividualContact, LineSlot, NoTable}

-- ---- which row

-- plain numbers for C: 1 lines, 2 quick texts, 3 status texts, 4 groups, 5 individuals, 6 group contacts, 7 individual contacts, 8 line slots
abbrev pub row_named : ℕ → ℕ → Row
row_named table place =
    cond (eqb table 1) (Line place)
    (cond (eqb table 2) (QuickText place)
    (cond (eqb table 3) (StatusText place)
    (cond (eqb table 4) (Group place)
    (cond (eqb table 5) (Individual place)
    (cond (eqb table 6) (GroupContact place)
    (cond (eqb table 7) (IndividualContact place)
    (cond (eqb table 8) (LineSlot place) NoTable)))))))

-- what stands in a row: a text, and what it names, by kind
pub data Caption : Type 0 where
  text : Text → Caption
  line : Text → Number → Caption
  group : Text → GroupAddress → Caption
  individual : Text → IndividualAddress → Caption

-- of what is there
abbrev pub of : {A B : Type 0} → (A → B) → Option A → Option B
of f none = none
of f (some a) = some (f a)

-- a line, and an individual
abbrev pub line_row : LineEntry → Caption
line_row l = line l.text l.number

abbrev pub individual_row : IndividualMember → Caption
individual_row i = individual i.text i.address

-- "A background group, in C8 or D1, gets no row on the screen (17); a response or member group does"
abbrev pub group_row : GroupMember → Option Caption
group_row g = cond (eqb g.flags.attribute 1) none (some (group g.text g.address))

-- "A screen row is named by table (line position from 0, quick index, status code, group or individual index)"; none: "screen row absent"; of contacts "Rows go by position, in D3 by index"
abbrev pub caption : Tables → Row → Option Caption
caption t (Line n) = of line_row (get_or (map some t.lines) n none)
caption t (QuickText n) = of text (get_or t.quick n none)
caption t (StatusText n) = cond (ltb n 32) none (of text (get_or t.status (n - 32) none))
caption t (Group n) = and_then (get_or t.groups n none) group_row
caption t (Individual n) = of individual_row (get_or t.individuals n none)
caption t (GroupContact n) = and_then (get_or (map some t.group_contacts) n none) group_row
caption t (IndividualContact n) = of individual_row (get_or (map some t.individual_contacts) n none)
caption t (LineSlot n) = of line_row (get_or t.line_slots n none)
caption t NoTable = none

-- the row's text
abbrev pub text_of : Caption → Text
text_of (text us) = us
text_of (line us ds) = us
text_of (group us a) = us
text_of (individual us a) = us

-- ---- numbers

-- "digits (as ASCII codes)": 0 to 9, then A to F in upper case
abbrev pub ascii : ℕ → ℕ
ascii d = cond (ltb d 10) (48 + d) (55 + d)

-- the n lowest digits of x in a base, highest first
abbrev pub digits : (base n x : ℕ) → List ℕ
digits base zero x = []
digits base (suc n) x = digits base n (x / base) ++ (x % base ∷ [])

-- "eight dialled digits, or six upper-case hex digits for an address outside the plan"
pub data AddressText (Plan : ℕ → ℕ → Type 0) (address : ℕ) (us : Text) : Type 0 where
  dialled : (number : ℕ) → Plan number address → us ≡ map ascii (digits 10 8 number) → AddressText Plan address us
  outside : ((number : ℕ) → Plan number address → ⊥) → us ≡ map ascii (digits 16 6 address) → AddressText Plan address us

-- a group's number is by the group plan
abbrev pub GroupText : GroupAddress → Text → Type 0
GroupText a us = AddressText GroupPlan a.0 us

-- and an individual's by the individual plan
abbrev pub IndividualText : IndividualAddress → Text → Type 0
IndividualText a us = AddressText IndividualPlan a.0 us

-- the number of what a row names, by the kind of its address
abbrev pub NumberText : Caption → Text → Type 0
NumberText (text us) ns = ⊥
NumberText (line us ds) ns = ns ≡ map ascii ds
NumberText (group us a) ns = GroupText a ns
NumberText (individual us a) ns = IndividualText a ns

-- ---- what is shown

-- the units of a stored text, or those of a number
pub data Display : Type 0 where
  stored : Text → Display
  written : Text → Display

-- a text that is not empty, or else the number
abbrev pub text_or : Text → (Text → Type 0) → Display → Type 0
text_or (u ∷ us) Number d = d ≡ stored (u ∷ us)
text_or [] Number d = (ns : Text) × Number ns × (d ≡ written ns)

-- "the stored text's own part of the store, or the part of its scratch where the number was written, when a line, group or individual text is empty";
-- "An empty status text is shown as an empty part"
abbrev pub Displays : Caption → Display → Type 0
Displays (text us) d = d ≡ stored us
Displays (line us ds) d = text_or us (NumberText (line us ds)) d
Displays (group us a) d = text_or us (NumberText (group us a)) d
Displays (individual us a) d = text_or us (NumberText (individual us a)) d

-- the units shown
abbrev pub units : Display → Text
units (stored us) = us
units (written us) = us

-- ---- where a row's text stands

-- where it has a place of its own: the region's first byte, the slots before it, and what its slot has before the text
abbrev pub placed_start : Limits → Row → ℕ
placed_start lim (Line n) = start_in Placed lim 12 + count_size + n * line_width + 20
placed_start lim (QuickText n) = start_in Placed lim 4 + n * quick_width
placed_start lim (StatusText n) = start_in Placed lim 5 + (n - 32) * status_width + 1
placed_start lim (Group n) = start_in Placed lim 6 + n * member_width + 4
placed_start lim (Individual n) = start_in Placed lim 7 + n * member_width + 4
placed_start lim (GroupContact n) = start_in Placed lim 9 + count_size + n * member_width + 4
placed_start lim (IndividualContact n) = start_in Placed lim 10 + count_size + n * member_width + 4
placed_start lim (LineSlot n) = start_in Placed lim 8 + n * line_width + 20
placed_start lim NoTable = 0

-- the row's table among those that have texts, in their order in the store, and its row there
abbrev pub table_of : Row → ℕ
table_of (QuickText n) = 0
table_of (StatusText n) = 1
table_of (Group n) = 2
table_of (Individual n) = 3
table_of (LineSlot n) = 4
table_of (GroupContact n) = 5
table_of (IndividualContact n) = 6
table_of (Line n) = 7
table_of NoTable = 8

abbrev pub place_of : Row → ℕ
place_of (QuickText n) = n
place_of (StatusText n) = n - 32
place_of (Group n) = n
place_of (Individual n) = n
place_of (LineSlot n) = n
place_of (GroupContact n) = n
place_of (IndividualContact n) = n
place_of (Line n) = n
place_of NoTable = 0

-- where texts share an area: its first byte, and all texts before the row's
abbrev pub start_by : Texts → Limits → Tables → Row → ℕ
start_by Placed lim t row = placed_start lim row
start_by (Shared a) lim t row = shared_start lim t (table_of row) (place_of row)

-- the first byte of a row's text
abbrev pub text_start : Limits → Tables → Row → ℕ
text_start lim t row = start_by lim.texts lim t row

-- "Text units and digits (as ASCII codes) are 16 bits, high byte first, without the end unit"
abbrev pub unit_bytes : Text → List ℕ
unit_bytes us = flat (map u16 us)

-- ---- the tests

-- no tables that this is the store of have the row
abbrev pub NoRow : Limits → List ℕ → Row → Type 0
NoRow lim store row = (t : Tables) → Holds lim t store → caption t row ≡ none

-- "Screen: 15, 11, 17": the tests of both calls, by the scratch's size
abbrev pub judged : {A : Type 0} → Limits → List ℕ → ℕ → Row → (Refusal → A) → (A → Type 0) → Ladder A
judged lim store room row refuse There =
    rung (room < 36) (refuse ScratchSize)
    (rung (StoreOf lim store → ⊥) (refuse NotAStore)
    (rung (NoRow lim store row) (refuse Absent)
    (foot There)))
