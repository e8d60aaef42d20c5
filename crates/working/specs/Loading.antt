-- A table's slots, made of its heads in a store and of the texts that stand in the area. Inner steps, no promise cites these.
use Rattle.std.specs.Prelude.{ℕ, ◌+◌, ◌*◌, ◌≤◌, ◌≡◌, List, drop}
use borrow.Rule.Slice.PartMut.{mid_of}
use Rattle.tables.specs.declared.limits.Limits.{Limits}
use Rattle.shared_texts.specs.declared.Run.{Run}
use Rattle.shared_texts.specs.Moves.{spread, loaded}
use Rattle.shared_texts.specs.Shared.{heads_in, run_units, stored_units}
use Rattle.working.specs.Runs.{heads_before, gap}

-- how many bytes a table's slots have in a working copy
abbrev pub slots_size : Run → ℕ
slots_size x = x.many * (x.own + x.room)

-- the slots, of heads in s and of the units that stand in texts from a place on
abbrev pub loaded_slots : Run → (s texts : List ℕ) → ℕ → List ℕ
loaded_slots x s texts place = spread x.own x.room x.many (heads_in s x) (drop place texts)

-- and where the texts of the next table stand
abbrev pub next_place : Run → List ℕ → ℕ → ℕ
next_place x s place = place + 2 * run_units s x.many x

-- what stands in a store before the heads of table k
abbrev pub stored_gap : Limits → List ℕ → ℕ → List ℕ
stored_gap lim s k = mid_of (heads_before lim k) (gap lim k) s

-- the units that a store's heads count stand in n bytes
unfoldable pub TextsIn : Limits → List ℕ → ℕ → Type 0
TextsIn lim s n = 2 * stored_units lim s ≤ n

-- a store's heads count r units
unfoldable pub UnitsAre : Limits → List ℕ → ℕ → Type 0
UnitsAre lim s r = r ≡ stored_units lim s

-- these bytes are what a store is loaded as
unfoldable pub IsLoaded : Limits → ℕ → List ℕ → List ℕ → Type 0
IsLoaded lim a s w = w ≡ loaded lim a s
