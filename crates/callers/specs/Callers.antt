-- Which line contact a caller is: document 02, A7.
use Rattle.std.specs.Prelude.{ℕ, ◌≡◌, List, map, get_or, length, Option as Maybe, Some, None, Result, Ok, Err}
use Rattle.std.proofs.Math.Option.{Option, none, some}
use Rattle.lists.specs.Every.{All}
use Rattle.lists.specs.Ladder.{Ladder, rung, foot}
use Rattle.orders.specs.OrderedLists.{Has}
use Rattle.writing.specs.Ranges.{InNumber}
use Rattle.writing.specs.Settings.{Number}
use Rattle.writing.specs.Writing.{bit}
use Rattle.tables.specs.declared.limits.Limits.{Limits}
use Rattle.tables.specs.Forms.{line_as}
use Rattle.tables.specs.Layout.{line_key_at, line_key_size}
use Rattle.tables.specs.Store.{StoreOf, Holds}
use Rattle.tables.specs.Tables.{Line, Tables}
use Rattle.callers.specs.declared.lookup.NoCaller.{NoCaller}
use Rattle.callers.specs.declared.lookup.NoCaller.TheVariants.{NotAStore, NotANumber}

-- the number that the call answers, and the row where there is one
pub record Told : Type 0 where
  pub number : ℕ
  pub row : Option ℕ

-- "a refusal carries no row"; that no row has the number is no refusal
abbrev pub told : Result (Maybe ℕ) NoCaller → Told
told (Ok (Some r)) = record { number = 0; row = some r }
told (Ok None) = record { number = 0; row = none }
told (Err NotAStore) = record { number = 11; row = none }
told (Err NotANumber) = record { number = 20; row = none }

-- a line has this IDtype and these digits
abbrev pub Calls : ℕ → Number → Line → Type 0
Calls idtype digits l = (bit l.flags.pabx ≡ idtype) × (l.number ≡ digits)

-- "The lookup answers with the row, or that no row has that number": rows are the positions of the line contacts
abbrev pub ByNumber : Tables → ℕ → Number → Option ℕ → Type 0
ByNumber t idtype digits (some r) = (l : Line) × (get_or (map some t.lines) r none ≡ some l) × Calls idtype digits l
ByNumber t idtype digits none = All (λ l. Calls idtype digits l → ⊥) t.lines

-- "11 for a store whose order is false; then 20 for a number of 0 or more than 18 digits or with a digit above 9"; then the row, or none
abbrev pub looking_up : Limits → ℕ → List ℕ → List ℕ → Ladder Told
looking_up lim idtype digits store =
    rung (StoreOf lim store → ⊥) (record { number = 11; row = none })
    (rung (InNumber digits → ⊥) (record { number = 20; row = none })
    (foot (λ a. (t : Tables) × Holds lim t store × (a.number ≡ 0) × ByNumber t idtype digits a.row)))

-- ---- inner steps: no promise cites these

-- the line found is one that has the key, or none has it
abbrev pub LineFound : Limits → List ℕ → List ℕ → Maybe ℕ → Type 0
LineFound lim store key r = (t : Tables) → Holds lim t store → length key ≡ line_key_size → Has line_key_at key (map (line_as lim.texts) t.lines) r
