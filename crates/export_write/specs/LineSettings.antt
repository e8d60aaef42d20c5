-- The settings that export lines and line slots: document 01, "Export parts", and since A4 part 10.
use Rattle.std.specs.Prelude.{ℕ, false, [], ◌∷◌}
use Rattle.std.proofs.Math.Option.{Option, none, some}
use Rattle.writing.specs.declared.LineFlags.{LineFlags}
use Rattle.writing.specs.declared.Operation.TheVariants.{Add, Delete}
use Rattle.writing.specs.Settings.{Number, Setting, lines, line_slot}
use Rattle.tables.specs.Tables.{Line}

abbrev pub no_line_flags : LineFlags
no_line_flags = record { encryption = false; emergency = false; priority = 0; pabx = false }

-- "one add per contact"
abbrev pub line_add : Line → Setting
line_add l = lines Add l.flags (record { number = l.number; text = l.text } ∷ [])

-- the number of a delete, which only the index counts of: the digit 0, since a number has 1 to 18
abbrev pub no_number : Number
no_number = 0 ∷ []

-- a line slot by its index: an add of what it holds, or a delete whose other fields are 0
abbrev pub line_slot_setting : ℕ → Option Line → Setting
line_slot_setting i none = line_slot Delete no_line_flags (record { index = i; address = no_number; text = [] })
line_slot_setting i (some l) = line_slot Add l.flags (record { index = i; address = l.number; text = l.text })
