-- Limits under which every part of every store is a request that fits the buffer.
use Rattle.std.specs.Prelude.{◌+◌, ◌*◌, ◌≤◌}
use Rattle.tables.specs.declared.limits.Limits.{Limits}

pub record Exportable (lim : Limits) : Type 0 where
  -- a replace and an add for each line are at most 255 settings
  pub counted : lim.lines ≤ 254
  -- a count of channels has 10 bits
  pub channels : lim.channels ≤ 1023
  -- 96 status texts of 16 units, the largest part but the lines
  pub status : 3373 ≤ lim.message
  -- lines of 18 digits and 16 units
  pub lines : 13 + lim.lines * 49 ≤ lim.message
