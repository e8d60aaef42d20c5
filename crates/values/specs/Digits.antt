-- The digits behind a row, and the call that writes them.
use Rattle.std.specs.Prelude.{ℕ, ◌<◌, ◌≡◌, List, map, get_or, length, Result, Ok, Err}
use Rattle.std.proofs.Math.Option.{Option, none, some}
use Rattle.lists.specs.Ladder.{Ladder, rung, foot}
use Rattle.slots.specs.Slots.{written_over}
use Rattle.writing.specs.Settings.{Number}
use Rattle.tables.specs.declared.limits.Limits.{Limits}
use Rattle.tables.specs.Store.{StoreOf, Holds}
use Rattle.tables.specs.Tables.{Line as LineEntry, Tables}
use Rattle.screen.specs.declared.rows.Row.{Row}
use Rattle.screen.specs.declared.rows.Row.TheVariants.{Line, QuickText, StatusText, Group, Individual, GroupContact, IndividualContact, LineSlot, NoTable}
use Rattle.screen.specs.Rows.{of}
use Rattle.values.specs.declared.answers.NoValue.{NoValue}
use Rattle.values.specs.Values.{refusal}

-- the number of a line contact or a line slot; no other row has digits
abbrev pub number_at : Tables → Row → Option Number
number_at t (Line n) = of (λ (l : LineEntry). l.number) (get_or (map some t.lines) n none)
number_at t (QuickText n) = none
number_at t (StatusText n) = none
number_at t (Group n) = none
number_at t (Individual n) = none
number_at t (GroupContact n) = none
number_at t (IndividualContact n) = none
number_at t (LineSlot n) = of (λ (l : LineEntry). l.number) (get_or t.line_slots n none)
number_at t NoTable = none

-- the number answered, how many digits, and the buffer afterwards
pub record AfterDigits : Type 0 where
  pub number : ℕ
  pub count : ℕ
  pub buffer : List ℕ

-- a refusal touches no byte
abbrev pub stays : ℕ → List ℕ → AfterDigits
stays n buffer = record { number = n; count = 0; buffer = buffer }

-- an answer of the code, with the buffer that it left
abbrev pub digits_told : Result ℕ NoValue → List ℕ → AfterDigits
digits_told (Ok n) buffer = record { number = 0; count = n; buffer = buffer }
digits_told (Err why) buffer = stays (refusal why) buffer

-- "15 (a digits buffer under 18 bytes), 11, 17 (nothing stands there)"; else "one digit a byte at the buffer's start, bytes past them stay"
abbrev pub writing_digits : Limits → Row → List ℕ → List ℕ → Ladder AfterDigits
writing_digits lim row store buffer =
    rung (length buffer < 18) (stays 15 buffer)
    (rung (StoreOf lim store → ⊥) (stays 11 buffer)
    (rung ((t : Tables) → Holds lim t store → number_at t row ≡ none) (stays 17 buffer)
    (foot (λ a. (t : Tables) × Holds lim t store × (ds : Number) × (number_at t row ≡ some ds) × (a ≡ record { number = 0; count = length ds; buffer = written_over ds buffer })))))
