-- How many line contacts and channels a store holds: document 02, A1.
use Rattle.std.specs.Prelude.{ℕ, ◌≡◌, List, length, Option, Some, None}
use Rattle.lists.specs.Ladder.{Ladder, rung, foot}
use Rattle.tables.specs.declared.limits.Limits.{Limits}
use Rattle.tables.specs.Store.{StoreOf, Holds}
use Rattle.tables.specs.Tables.{Tables}
use Rattle.menu.specs.declared.counting.Counts.{Counts}

-- the number that the call answers, and both counts
pub record Told : Type 0 where
  pub number : ℕ
  pub lines : ℕ
  pub channels : ℕ

-- "11 .. returns 0 and 0"
abbrev pub told : Option Counts → Told
told (Some c) = record { number = 0; lines = c.lines; channels = c.channels }
told None = record { number = 11; lines = 0; channels = 0 }

-- the counts of tables: of entries held, not of what is free
abbrev pub counts_of : Tables → Told
counts_of t = record { number = 0; lines = length t.lines; channels = length t.channels }

-- "one call returns the two counts": of the tables that the store holds, or 11 where it is no store
abbrev pub counting : Limits → List ℕ → Ladder Told
counting lim store =
    rung (StoreOf lim store → ⊥) (record { number = 11; lines = 0; channels = 0 })
    (foot (λ a. (t : Tables) × Holds lim t store × (a ≡ counts_of t)))

-- ---- inner steps: no promise cites these

-- what is read of a store are the counts of its tables
abbrev pub Reads : Limits → List ℕ → Told → Type 0
Reads lim store a = (t : Tables) → Holds lim t store → a ≡ counts_of t
