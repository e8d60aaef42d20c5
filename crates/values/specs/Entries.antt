-- How what stands behind a row is found: inner steps, no promise cites these.
use Rattle.std.specs.Prelude.{ℕ, ◌+◌, ◌-◌, ◌≤◌, ◌<◌, ◌≡◌, List, ◌∷◌, map, get_or, length, take, drop, Result}
use Rattle.std.proofs.Math.Option.{Option, none, some}
use Rattle.slots.specs.Slots.{u24, written_over}
use Rattle.writing.specs.declared.LineFlags.{LineFlags}
use Rattle.writing.specs.declared.GroupFlags.{GroupFlags}
use Rattle.writing.specs.declared.IndividualFlags.{IndividualFlags}
use Rattle.writing.specs.Ranges.{InNumber}
use Rattle.writing.specs.Settings.{Number}
use Rattle.writing.specs.Writing.{bit}
use Rattle.tables.specs.declared.limits.Limits.{Limits}
use Rattle.tables.specs.Allowed.{LineOk, GroupOk, IndividualOk}
use Rattle.tables.specs.Apply.{and_then}
use Rattle.tables.specs.Heads.{quick_own, status_own, member_own, line_own}
use Rattle.tables.specs.Layout.{line_flags, group_flags, individual_flags, digit_bytes}
use Rattle.tables.specs.LineHeads.{head_bytes}
use Rattle.tables.specs.Store.{Holds}
use Rattle.tables.specs.Tables.{Line as LineEntry, GroupMember, IndividualMember, Tables}
use Rattle.std.specs.Prelude.{Option as Maybe, Some, None}
use Rattle.screen.specs.declared.names.Slot.{Slot}
use Rattle.screen.specs.declared.rows.Row.{Row}
use Rattle.screen.specs.declared.rows.Row.TheVariants.{Line, QuickText, StatusText, Group, Individual, GroupContact, IndividualContact, LineSlot, NoTable}
use Rattle.screen.specs.Rows.{of}
use Rattle.values.specs.declared.answers.NoValue.{NoValue}
use Rattle.values.specs.declared.answers.Target.{Target}
use Rattle.values.specs.Digits.{AfterDigits, digits_told, stays}
use Rattle.values.specs.Values.{Asked, refused, given, line_target, group_target, individual_target, told}

-- ---- flags

-- the flags that a byte keeps
abbrev pub LineFlagsAre : ℕ → ℕ → LineFlags → Type 0
LineFlagsAre byte idtype r = (f : LineFlags) → f.priority < 4 → byte ≡ line_flags f → idtype ≡ bit f.pabx → r ≡ f

abbrev pub GroupFlagsAre : ℕ → GroupFlags → Type 0
GroupFlagsAre byte r = (f : GroupFlags) → f.priority < 4 → byte ≡ group_flags f → r ≡ f

abbrev pub IndividualFlagsAre : ℕ → IndividualFlags → Type 0
IndividualFlagsAre byte r = (f : IndividualFlags) → f.priority < 4 → byte ≡ individual_flags f → r ≡ f

-- ---- entries

-- what a table with slots has in a place, by kind
pub data Standing : Type 0 where
  line : LineEntry → Standing
  group : GroupMember → Standing
  individual : IndividualMember → Standing

-- behind a row
abbrev pub standing : Tables → Row → Option Standing
standing t (Line n) = of line (get_or (map some t.lines) n none)
standing t (QuickText n) = none
standing t (StatusText n) = none
standing t (Group n) = of group (get_or t.groups n none)
standing t (Individual n) = of individual (get_or t.individuals n none)
standing t (GroupContact n) = of group (get_or (map some t.group_contacts) n none)
standing t (IndividualContact n) = of individual (get_or (map some t.individual_contacts) n none)
standing t (LineSlot n) = of line (get_or t.line_slots n none)
standing t NoTable = none

-- what an entry is called by, and the digits of a line
abbrev pub target_of : Standing → Target
target_of (line l) = line_target l
target_of (group g) = group_target g
target_of (individual i) = individual_target i

abbrev pub number_of : Standing → Option Number
number_of (line l) = some l.number
number_of (group g) = none
number_of (individual i) = none

-- the bytes of its own that its slot has, before the text or before how many units that has: flags, and then digits or an address
abbrev pub line_own_bytes : LineEntry → List ℕ
line_own_bytes l = head_bytes l.flags l.number

abbrev pub group_own_bytes : GroupMember → List ℕ
group_own_bytes g = group_flags g.flags ∷ u24 g.address.0

abbrev pub individual_own_bytes : IndividualMember → List ℕ
individual_own_bytes i = individual_flags i.flags ∷ u24 i.address.0

abbrev pub own_bytes : Standing → List ℕ
own_bytes (line l) = line_own_bytes l
own_bytes (group g) = group_own_bytes g
own_bytes (individual i) = individual_own_bytes i

-- what the rules ask of it
abbrev pub EntryOk : Standing → Type 0
EntryOk (line l) = LineOk l
EntryOk (group g) = GroupOk g
EntryOk (individual i) = IndividualOk i

-- the kind of an entry, and that of a row: 1 a line, 2 a group, 3 an individual; 0 for a row that names nothing
abbrev pub kind_is : Standing → ℕ
kind_is (line l) = 1
kind_is (group g) = 2
kind_is (individual i) = 3

abbrev pub kind_of : Row → ℕ
kind_of (Line n) = 1
kind_of (QuickText n) = 0
kind_of (StatusText n) = 0
kind_of (Group n) = 2
kind_of (Individual n) = 3
kind_of (GroupContact n) = 2
kind_of (IndividualContact n) = 3
kind_of (LineSlot n) = 1
kind_of NoTable = 0

-- how many bytes of its own the slot of a row has
abbrev pub own_of : Row → ℕ
own_of (Line n) = line_own
own_of (QuickText n) = quick_own
own_of (StatusText n) = status_own
own_of (Group n) = member_own
own_of (Individual n) = member_own
own_of (GroupContact n) = member_own
own_of (IndividualContact n) = member_own
own_of (LineSlot n) = line_own
own_of NoTable = 0

-- ---- slots

-- what these bytes of its own say of a slot of the row that is not all zeros: it keeps a text, which names nothing, or an entry of the row's kind
pub data Kept (row : Row) (slot : List ℕ) : Option Standing → Type 0 where
  text : kind_of row ≡ 0 → Kept row slot none
  entry : (x : Standing) → kind_of row ≡ kind_is x → EntryOk x → slot ≡ own_bytes x → Kept row slot (some x)

-- the row's slot, where something stands in it
abbrev pub Filled : Limits → List ℕ → Row → Maybe Slot → Type 0
Filled lim s row (Some slot) =
    (slot.text ≡ slot.start + own_of row) × (slot.text ≤ length s)
    × ((t : Tables) → Holds lim t s → Kept row (take (slot.text - slot.start) (drop slot.start s)) (standing t row))
Filled lim s row None = (t : Tables) → Holds lim t s → standing t row ≡ none

-- what was read of the bytes of any entry
abbrev pub Reads : {A B : Type 0} → (A → Type 0) → (A → List ℕ) → (A → B) → List ℕ → B → Type 0
Reads P f what slot r = (a : _) → P a → slot ≡ f a → r ≡ what a

-- what is answered of what may stand there
abbrev pub either : {A B : Type 0} → B → (A → B) → Option A → B
either no_one yes_one none = no_one
either no_one yes_one (some a) = yes_one a

abbrev pub said : {A : Type 0} → Option A → Asked A
said o = either (refused 17) given o

-- the target that the bytes of a row's slot keep
abbrev pub TargetIs : Row → List ℕ → Result Target NoValue → Type 0
TargetIs row slot r = (o : Option Standing) → Kept row slot o → told r ≡ said (of target_of o)

-- ---- digits

-- digits that were kept stand at the buffer's start
abbrev pub DigitsWritten : List ℕ → List ℕ → List ℕ → ℕ → Type 0
DigitsWritten kept before after r = (ds : Number) → InNumber ds → kept ≡ digit_bytes ds → (r ≡ length ds) × (after ≡ written_over ds before)

-- what is answered of the digits that may stand there, and the buffer afterwards
abbrev pub digits_said : List ℕ → Option Number → AfterDigits
digits_said buffer o = either (stays 17 buffer) (λ ds. record { number = 0; count = length ds; buffer = written_over ds buffer }) o

-- the digits that they keep
abbrev pub DigitsAre : Row → List ℕ → List ℕ → List ℕ → Result ℕ NoValue → Type 0
DigitsAre row slot before after r = (o : Option Standing) → Kept row slot o → digits_told r after ≡ digits_said before (and_then o number_of)
