-- How a row's text is found: inner steps, no promise cites these.
use Rattle.std.specs.Prelude.{ℕ, ◌+◌, ◌*◌, ◌-◌, ◌/◌, ◌≤◌, ◌<◌, ◌≡◌, Bool, false, List, [], eqb, length, take, drop}
use Rattle.std.proofs.Math.Option.{none, some}
use Rattle.lists.specs.Ladder.{Ladder}
use Rattle.writing.specs.Ranges.{text_limits, InNumber}
use Rattle.writing.specs.Settings.{Number}
use Rattle.tables.specs.declared.limits.Limits.{Limits}
use Rattle.tables.specs.declared.limits.Texts.{Texts}
use Rattle.tables.specs.Forms.{start_in, slot_width}
use Rattle.tables.specs.Heads.{quick_own, status_own, member_own, line_own}
use Rattle.tables.specs.Layout.{digit_bytes, count_size}
use Rattle.tables.specs.Limits.{quick_places, status_places, slot_places, contact_places}
use Rattle.tables.specs.Store.{Holds}
use Rattle.tables.specs.Tables.{Tables}
use Rattle.screen.specs.declared.rows.Refusal.TheVariants.{ScratchSize, NotAStore, Absent}
use Rattle.screen.specs.declared.areas.Span.{Span}
use Rattle.screen.specs.declared.names.Name.{Name}
use Rattle.screen.specs.declared.names.Name.TheVariants.{Refused, Text as TextAt, Digits, Group as GroupNumber, Individual as IndividualNumber}
use Rattle.std.specs.Prelude.{Option as Maybe, Some, None}
use Rattle.screen.specs.declared.names.Slot.{Slot}
use Rattle.screen.specs.declared.rows.Row.{Row}
use Rattle.screen.specs.declared.rows.Row.TheVariants.{Line, QuickText, StatusText, Group, Individual, GroupContact, IndividualContact, LineSlot, NoTable}
use Rattle.screen.specs.Rows.{Caption, line, group, individual, caption, text_of, Displays, stored, text_start, judged}

-- ---- slots

-- place n of a table of slots of w bytes, of which h stand before the text or before how many units it has
abbrev pub Slotted : (base places n w h : ℕ) → Maybe Slot → Type 0
Slotted base places n w h (Some s) = (n < places) × (s.start ≡ base + n * w) × (s.text ≡ base + n * w + h) × (s.end ≡ base + n * w + w)
Slotted base places n w h None = places ≤ n

-- the row's slot, in a form of the store
abbrev pub SlotBy : Texts → Limits → Row → Maybe Slot → Type 0
SlotBy x lim (Line n) r = Slotted (start_in x lim 12 + count_size) lim.lines n (slot_width x line_own text_limits.short) line_own r
SlotBy x lim (QuickText n) r = Slotted (start_in x lim 4) quick_places n (slot_width x quick_own text_limits.quick) quick_own r
SlotBy x lim (StatusText n) (Some s) = (32 ≤ n) × Slotted (start_in x lim 5) status_places (n - 32) (slot_width x status_own text_limits.short) status_own (Some s)
SlotBy x lim (StatusText n) None = 32 ≤ n → status_places ≤ n - 32
SlotBy x lim (Group n) r = Slotted (start_in x lim 6) slot_places n (slot_width x member_own text_limits.short) member_own r
SlotBy x lim (Individual n) r = Slotted (start_in x lim 7) slot_places n (slot_width x member_own text_limits.short) member_own r
SlotBy x lim (GroupContact n) r = Slotted (start_in x lim 9 + count_size) contact_places n (slot_width x member_own text_limits.short) member_own r
SlotBy x lim (IndividualContact n) r = Slotted (start_in x lim 10 + count_size) contact_places n (slot_width x member_own text_limits.short) member_own r
SlotBy x lim (LineSlot n) r = Slotted (start_in x lim 8) slot_places n (slot_width x line_own text_limits.short) line_own r
SlotBy x lim NoTable (Some s) = ⊥
SlotBy x lim NoTable None = Unit {0}

-- in that of the limits
abbrev pub SlotIs : Limits → Row → Maybe Slot → Type 0
SlotIs lim row r = SlotBy lim.texts lim row r

-- whether a slot with these flags has no row: that of a background group
abbrev pub hidden : Row → ℕ → Bool
hidden (Line n) flags = false
hidden (QuickText n) flags = false
hidden (StatusText n) flags = false
hidden (Group n) flags = eqb (flags / 64) 1
hidden (Individual n) flags = false
hidden (GroupContact n) flags = eqb (flags / 64) 1
hidden (IndividualContact n) flags = false
hidden (LineSlot n) flags = false
hidden NoTable flags = false

-- ---- names

-- where a row's text stands in these bytes, for all tables that they are the store of and that have the row
abbrev pub TextIs : Limits → List ℕ → Row → Span → Type 0
TextIs lim s row r =
    (t : Tables) → Holds lim t s → (c : Caption) → caption t row ≡ some c
    → (r.start ≡ text_start lim t row) × (r.bytes ≡ 2 * length (text_of c)) × (r.start + r.bytes ≤ length s)

-- what stands in a row of these tables, and what was found there
abbrev pub Named : Limits → Tables → List ℕ → Row → Name → Type 0
Named lim t s row (Refused ScratchSize) = ⊥
Named lim t s row (Refused NotAStore) = ⊥
Named lim t s row (Refused Absent) = caption t row ≡ none
Named lim t s row (TextAt at n) =
    (c : Caption) × (caption t row ≡ some c) × Displays c (stored (text_of c)) × (at ≡ text_start lim t row) × (n ≡ 2 * length (text_of c)) × (at + n ≤ length s)
Named lim t s row (Digits at) = (ds : Number) × (caption t row ≡ some (line [] ds)) × InNumber ds × (take 18 (drop at s) ≡ digit_bytes ds) × (at + 18 ≤ length s)
Named lim t s row (GroupNumber a) = caption t row ≡ some (group [] a)
Named lim t s row (IndividualNumber a) = caption t row ≡ some (individual [] a)

-- for all tables that these bytes are the store of
abbrev pub NameIs : Limits → List ℕ → Row → Name → Type 0
NameIs lim s row r = (t : Tables) → Holds lim t s → Named lim t s row r

-- the tests of both calls, and then what was found
abbrev pub naming : Limits → List ℕ → ℕ → Row → Ladder Name
naming lim store room row = judged lim store room row Refused (λ r. (t : Tables) × Holds lim t store × Named lim t store row r)
