-- Line contacts and line slots as the writers see them, and what writing them promises.
use Rattle.std.specs.Prelude.{ℕ, ◌+◌, ◌*◌, ◌/◌, ◌%◌, ◌≤◌, ◌≡◌, List, [], ◌∷◌, ◌++◌, map, length, get_or}
use Rattle.std.proofs.Math.Option.{Option}
use Rattle.slots.specs.Slots.{Placed}
use Rattle.writing.specs.declared.Operation.TheVariants.{Replace}
use Rattle.writing.specs.Canonical.{plain}
use Rattle.writing.specs.Settings.{Setting, lines, unicode16}
use Rattle.writing.specs.Writing.{bit, number, text}
use Rattle.tables.specs.Allowed.{LineOk}
use Rattle.tables.specs.Layout.{line_bytes, line_flags, line_width, line_slots_size}
use Rattle.tables.specs.Limits.{slot_places}
use Rattle.tables.specs.Tables.{Line}
use Rattle.export_write.specs.declared.writers.Settings.{Settings}
use Rattle.export_write.specs.EntrySettings.{slots}
use Rattle.export_write.specs.LineSettings.{no_line_flags, line_add, line_slot_setting}
use Rattle.export_write.specs.Writers.{Kept, Writes, ListIn, SlotIn, WritesTable}

-- ---- line contacts

-- the lent bytes are a table of lines
abbrev pub LinesIn : List ℕ → List Line → Type 0
LinesIn = ListIn LineOk line_width line_bytes

-- the settings that export them
abbrev pub line_settings : List Line → List Setting
line_settings ls = lines Replace no_line_flags [] ∷ map line_add ls

-- a table of at most 254 lines was written
abbrev pub WritesLines : (region before after : List ℕ) → Settings → Type 0
WritesLines region before after r = WritesTable (length region ≤ 254 * line_width) (LinesIn region) line_settings (5 + length region / line_width * 49) before after r

-- ---- line slots

-- the lent bytes are the slot of a line, or an empty one
abbrev pub LineSlotIn : List ℕ → Option Line → Type 0
LineSlotIn = SlotIn LineOk line_width line_bytes

-- the lent bytes are a table of sixteen slots
abbrev pub LineSlotsIn : List ℕ → List (Option Line) → Type 0
LineSlotsIn region os = Placed LineOk line_width line_bytes slot_places os region

-- it was written
abbrev pub WritesLineSlots : (region before after : List ℕ) → Settings → Type 0
WritesLineSlots region before after r = WritesTable (length region ≡ line_slots_size) (LineSlotsIn region) (slots line_slot_setting 0) 784 before after r

-- ---- inner steps: an add, of a line contact or of a line slot

-- its first byte behind DataLength, of the bytes that keep the line
abbrev pub line_byte : List ℕ → ℕ
line_byte p = 64 + get_or p 0 0 % 16 * 4 + get_or p 1 0 % 2 * 2

-- its bytes behind DataLength: the operation and the flags, then the Count or the index, the number and the text
abbrev pub line_fields : ℕ → Line → List ℕ
line_fields second l =
    (64 + line_flags l.flags * 4 + bit l.flags.pabx * 2) ∷ second ∷ plain (number l.number) ++ plain (text unicode16 l.text)

-- they were written
abbrev pub WritesFields : (second : ℕ) → (slot : List ℕ) → (at : ℕ) → (before after : List ℕ) → ℕ → Type 0
WritesFields second slot at before after r = Writes (Kept LineOk line_bytes slot) (line_fields second) at 46 before after r
