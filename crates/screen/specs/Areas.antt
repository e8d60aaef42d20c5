-- Which table has a row, and how its text is found in the area that texts share: inner steps, no promise cites these.
use Rattle.std.specs.Prelude.{ℕ, ◌+◌, ◌*◌, ◌-◌, cond, List, ltb, get_or}
use Rattle.tables.specs.declared.limits.Limits.{Limits}
use Rattle.tables.specs.SharedLayout.{heads_size}
use Rattle.shared_texts.specs.Shared.{text_runs, counted_before}
use Rattle.screen.specs.declared.areas.Span.{Span}
use Rattle.screen.specs.declared.rows.Row.{Row}
use Rattle.screen.specs.declared.rows.Row.TheVariants.{Line, QuickText, StatusText, Group, Individual, GroupContact, IndividualContact, LineSlot, NoTable}
use Rattle.screen.specs.declared.spots.Spot.{Spot}

-- ---- the tables that have texts

-- row n of table k
abbrev pub spot : ℕ → ℕ → Spot
spot k n = record { table = k; place = n }

-- where the row stands; table 8 is none
abbrev pub spot_of : Row → Spot
spot_of (QuickText n) = spot 0 n
spot_of (StatusText n) = cond (ltb n 32) (spot 8 0) (spot 1 (n - 32))
spot_of (Group n) = spot 2 n
spot_of (Individual n) = spot 3 n
spot_of (LineSlot n) = spot 4 n
spot_of (GroupContact n) = spot 5 n
spot_of (IndividualContact n) = spot 6 n
spot_of (Line n) = spot 7 n
spot_of NoTable = spot 8 0

-- ---- the text of row n of table k

-- behind the units that the heads before it count, as many as its head's last byte says
abbrev pub shared_span : Limits → List ℕ → Spot → ℕ → Span
shared_span lim s at last = record { start = heads_size lim + 2 * counted_before s (text_runs lim) at.table at.place; bytes = 2 * get_or s last 0 }
