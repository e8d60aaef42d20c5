-- Tables with less text than others: where those have room, they have.
use Rattle.std.specs.Prelude.{◌≤◌}
use Rattle.writing.specs.declared.Kind.{Kind}
use Rattle.tables.specs.Owns.{own}
use Rattle.tables.specs.Tables.{Tables}
use Rattle.tables.specs.Texts.{text_size}

-- table by table, u has no more text than t
abbrev pub Under : Tables → Tables → Type 0
Under u t = (k : Kind) → text_size k (own k u) ≤ text_size k (own k t)
