-- What stands behind a row, and the settings that the radio works by, as the tables have them; and what the calls answer of a store.
use Rattle.std.specs.Prelude.{ℕ, ◌≡◌, List, map, get_or, Option as Maybe, Some, None, Result, Ok, Err}
use Rattle.std.proofs.Math.Option.{Option, none, some}
use Rattle.lists.specs.Ladder.{Ladder, rung, foot}
use Rattle.writing.specs.declared.HomeNumbers.{HomeNumbers}
use Rattle.writing.specs.declared.SystemCode.{SystemCode}
use Rattle.tables.specs.declared.limits.Limits.{Limits}
use Rattle.tables.specs.Store.{StoreOf, Holds}
use Rattle.tables.specs.Tables.{Line as LineEntry, GroupMember, IndividualMember, Key, Tables}
use Rattle.screen.specs.declared.rows.Row.{Row}
use Rattle.screen.specs.declared.rows.Row.TheVariants.{Line, QuickText, StatusText, Group, Individual, GroupContact, IndividualContact, LineSlot, NoTable}
use Rattle.screen.specs.Rows.{of}
use Rattle.values.specs.declared.answers.Target.{Target}
use Rattle.values.specs.declared.answers.Target.TheVariants.{Line as ToLine, Group as ToGroup, Individual as ToIndividual}
use Rattle.values.specs.declared.answers.EmergencyKey.{EmergencyKey}
use Rattle.values.specs.declared.answers.NoValue.{NoValue}
use Rattle.values.specs.declared.answers.NoValue.TheVariants.{NotAStore, BufferSize, Absent}

-- ---- what stands there

-- a line's flags, IDtype among them; the address of a group or an individual, by kind, and its flags
abbrev pub line_target : LineEntry → Target
line_target l = ToLine l.flags

abbrev pub group_target : GroupMember → Target
group_target g = ToGroup g.flags g.address

abbrev pub individual_target : IndividualMember → Target
individual_target i = ToIndividual i.flags i.address

-- behind a row, named "by the screen's index or position; background groups too, for the radio listens to them"
abbrev pub entry_at : Tables → Row → Option Target
entry_at t (Line n) = of line_target (get_or (map some t.lines) n none)
entry_at t (QuickText n) = none
entry_at t (StatusText n) = none
entry_at t (Group n) = of group_target (get_or t.groups n none)
entry_at t (Individual n) = of individual_target (get_or t.individuals n none)
entry_at t (GroupContact n) = of group_target (get_or (map some t.group_contacts) n none)
entry_at t (IndividualContact n) = of individual_target (get_or (map some t.individual_contacts) n none)
entry_at t (LineSlot n) = of line_target (get_or t.line_slots n none)
entry_at t NoTable = none

-- the channel at a position
abbrev pub channel_at : Tables → ℕ → Option ℕ
channel_at t n = get_or (map some t.channels) n none

-- the emergency key, as the code has it
abbrev pub key_of : Key → EmergencyKey
key_of k = record { target = k.target; flags = k.flags }

-- ---- what a call answers

-- the number, and the value where there is one
pub record Asked (A : Type 0) : Type 0 where
  pub number : ℕ
  pub value : Option A

-- a refusal: "all other bits 0"
abbrev pub refused : {A : Type 0} → ℕ → Asked A
refused n = record { number = n; value = none }

abbrev pub given : {A : Type 0} → A → Asked A
given v = record { number = 0; value = some v }

-- the number of each refusal
abbrev pub refusal : NoValue → ℕ
refusal NotAStore = 11
refusal BufferSize = 15
refusal Absent = 17

-- an answer of the code
abbrev pub told : {A : Type 0} → Result A NoValue → Asked A
told (Ok v) = given v
told (Err why) = refused (refusal why)

-- and one of the code for what every store has: none of bytes that are no store
abbrev pub held : {A : Type 0} → Maybe A → Asked A
held (Some v) = given v
held None = refused 11

-- "11, 17 (nothing stands there)"; else what the tables of the store have there
abbrev pub asking : {A : Type 0} → Limits → (Tables → Option A) → List ℕ → Ladder (Asked A)
asking lim what store =
    rung (StoreOf lim store → ⊥) (refused 11)
    (rung ((t : Tables) → Holds lim t store → what t ≡ none) (refused 17)
    (foot (λ a. (t : Tables) × Holds lim t store × (v : _) × (what t ≡ some v) × (a ≡ given v))))

-- ---- the calls

abbrev pub entering : Limits → Row → List ℕ → Ladder (Asked Target)
entering lim row store = asking lim (λ t. entry_at t row) store

abbrev pub tuning : Limits → ℕ → List ℕ → Ladder (Asked ℕ)
tuning lim n store = asking lim (λ t. channel_at t n) store

-- these three are always there
abbrev pub key_asked : Limits → List ℕ → Ladder (Asked EmergencyKey)
key_asked lim store = asking lim (λ t. some (key_of t.key)) store

abbrev pub home_asked : Limits → List ℕ → Ladder (Asked HomeNumbers)
home_asked lim store = asking lim (λ t. some t.home) store

abbrev pub system_asked : Limits → List ℕ → Ladder (Asked SystemCode)
system_asked lim store = asking lim (λ t. some t.system) store
