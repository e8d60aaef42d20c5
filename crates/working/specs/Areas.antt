-- Which rows have a head in a store whose texts share an area. Inner steps, no promise cites these.
use Rattle.std.specs.Prelude.{ℕ, ◌≤◌, ◌<◌, List, length}
use Rattle.tables.specs.declared.limits.Limits.{Limits}
use Rattle.tables.specs.SharedLayout.{heads_size}
use Rattle.working.specs.Runs.{run_of}

-- a count has room for as many channels, and an order for as many lines
abbrev pub Countable : Limits → Type 0
Countable lim = (lim.channels < 65536) × (lim.lines ≤ 255)

-- row n of table k has a head in these bytes
pub record InHeads (lim : Limits) (s : List ℕ) (k n : ℕ) : Type 0 where
  pub few_channels : lim.channels < 65536
  pub few_lines : lim.lines ≤ 255
  pub heads : heads_size lim ≤ length s
  pub table : k < 8
  pub place : n ≤ (run_of lim k).many
