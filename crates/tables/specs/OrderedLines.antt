-- The lines' region of a store as bytes: their count, their table and their order.
use Rattle.std.specs.Prelude.{ℕ, List}
use Rattle.counted_lists.specs.Counted.{EntriesOf}
use Rattle.orders.specs.OrderedLists.{OrderedList}
use Rattle.tables.specs.Allowed.{LineOk}
use Rattle.tables.specs.Layout.{line_bytes, line_width, line_key_at, line_key_size}
use Rattle.tables.specs.Tables.{Line}

-- the bytes are the count, the table and the order of these lines, with n places
abbrev pub LineList : ℕ → List Line → List ℕ → Type 0
LineList n = EntriesOf (OrderedList line_width line_key_at line_key_size n) LineOk line_bytes
