-- What differs between sets. The struct is that of src/; the standard fixes the other sizes by its index widths and codes.
use Rattle.std.specs.Prelude.{ℕ, ◌+◌, ◌*◌, ◌≤◌}
use Rattle.tables.specs.declared.limits.Limits.{Limits}
use Rattle.tables.specs.declared.limits.Texts.TheVariants.{Placed, Shared}

-- "Room: 32 line contacts, 64 channels"; messages of at most 4,096 bytes; "The store grows to 24,576 bytes"; "keep all texts in one area of 4,096 bytes"
abbrev pub handheld : Limits
handheld = record { lines = 32; channels = 64; message = 4096; size = 24576; texts = Shared 4096 }

-- "room for 128 line contacts and 256 channels, messages of up to 8,192 bytes, and a store of 49,152 bytes"
abbrev pub vehicle : Limits
vehicle = record { lines = 128; channels = 256; message = 8192; size = 49152; texts = Placed }

-- the same limits, each text in a place of its own: those of the working copy that settings are tried on
abbrev pub placed : Limits → Limits
placed lim = record { lines = lim.lines; channels = lim.channels; message = lim.message; size = lim.size; texts = Placed }

-- places of quick texts (index 6 bits), of status texts (codes 32 to 127), and of group, individual and line slots (index 4 bits)
abbrev pub quick_places : ℕ
quick_places = 64

abbrev pub status_places : ℕ
status_places = 96

abbrev pub slot_places : ℕ
slot_places = 16

-- "There is room for 64, 64 and 16": group contacts, individual contacts, and the line slots above
abbrev pub contact_places : ℕ
contact_places = 64
