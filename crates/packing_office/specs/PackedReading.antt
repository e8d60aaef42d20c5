-- How what the office's reader answers is packed in one number for C: docs/REPORTS.md, "For C".
use Rattle.std.specs.Prelude.{ℕ, ◌+◌, ◌*◌, ◌≡◌, true, false, cond, List, [], ◌∷◌, ltb, length}
use Rattle.lists.specs.Ladder.{Answers}
use Rattle.writing.specs.Fields.{Field, val}
use Rattle.writing.specs.Writing.{bit, flag}
use Rattle.tables.specs.Layout.{group_flags, individual_flags, line_flags, key_flags, key_address}
use Rattle.read_fields.specs.declared.texts.TextPlace.{TextPlace}
use Rattle.reports.specs.declared.Asked.TheVariants.{Groups, Individuals, Lines, Key as AKey, QuickTexts, Home as AHome, Channels, System as ASystem, StatusTexts, Hash as AHash}
use Rattle.reports.specs.Reading.{Read, reading}
use Rattle.reports.specs.Types.{ask_byte}
use Rattle.report_reading.specs.declared.items.Item.{Item}
use Rattle.report_reading.specs.declared.items.Item.TheVariants.{Group, Individual, Line, Key, Quick, Home, Channel, System, Status, Hash, NoHash, Unknown}
use Rattle.std.specs.Prelude.{Some, None}
use Rattle.report_reading.specs.Reading.{ItemRead, ReadAt}
use Rattle.packing.specs.PackedValues.{PacksFields}
use Rattle.packing_office.specs.declared.parameter.Parameter.{Parameter}
use Rattle.packing_office.specs.declared.places.Places.{Places}

-- ---- a message

-- from the highest bit down: 24-31 how many parameters, 16-23 index, 8-15 total, 0-7 number
abbrev pub message_fields : Read → List Field
message_fields x = val 8 (length x.items) ∷ val 8 x.index ∷ val 8 x.total ∷ val 8 x.number ∷ []

-- what the contract of the reader allows, packed
pub record AnswersMessage (most : ℕ) (message : List ℕ) (r : ℕ) : Type 0 where
  pub read : Read
  pub allowed : Answers (reading most message) read
  pub packs : PacksFields (message_fields read) r

-- ---- a parameter

abbrev pub entry : (asked flags index value : ℕ) → Parameter
entry asked flags index value = record { asked = asked; flags = flags; index = index; unknown = false; value = value }

-- the table of docs/REPORTS.md, row by row: "flags are those of a slot of the store, and of a line 16 for PABX"
abbrev pub parameter : Item → Parameter
parameter (Group i f a t) = entry (ask_byte Groups) (group_flags f) i a.0
parameter (Individual i f a t) = entry (ask_byte Individuals) (individual_flags f) i a.0
parameter (Line i f n t) = entry (ask_byte Lines) (bit f.pabx * 16 + line_flags f) i 0
parameter (Key t f) = entry (ask_byte AKey) (key_flags (record { target = t; flags = f })) 0 (key_address t)
parameter (Quick i t) = entry (ask_byte QuickTexts) 0 i 0
parameter (Home h) = entry (ask_byte AHome) 0 0 (h.nzi * 32768 + h.np * 32)
parameter (Channel n i) = entry (ask_byte Channels) 0 i n
parameter (System s) = entry (ask_byte ASystem) 0 0 (s.lai * 4096 + s.la * 256 + s.roaming * 64 + bit s.par * 32)
parameter (Status c i t) = entry (ask_byte StatusTexts) 0 c 0
parameter (Hash p) = entry (ask_byte AHash) 0 0 0
parameter NoHash = entry (ask_byte AHash) 0 0 0
parameter (Unknown b) = record { asked = b; flags = 0; index = 0; unknown = true; value = 0 }

-- "answer 0 in all bits where no parameter in range starts there"
abbrev pub parameter_read : ItemRead → Parameter
parameter_read (Some (i, next)) = parameter i
parameter_read None = entry 0 0 0 0

-- 32-55 value, 28 unknown type, 16-27 index or code, 8-15 flags, 0-7 the type asked
abbrev pub parameter_fields : Parameter → List Field
parameter_fields p = val 24 p.value ∷ val 3 0 ∷ flag p.unknown ∷ val 12 p.index ∷ val 8 p.flags ∷ val 8 p.asked ∷ []

-- what the contract of reading a parameter allows, packed
pub record AnswersParameter (message : List ℕ) (at r : ℕ) : Type 0 where
  pub read : ItemRead
  pub allowed : ReadAt message at read
  pub packs : PacksFields (parameter_fields (parameter_read read)) r

-- ---- where its parts stand

-- a parameter without a text, and one with a text
abbrev pub bare : (next number size : ℕ) → Places
bare next number size = record { next = next; text = 0; units = 0; number = number; size = size }

abbrev pub texted : ℕ → TextPlace → (number size : ℕ) → Places
texted next t number size = record { next = next; text = t.start; units = t.units; number = number; size = size }

-- "places and lengths of what a parameter has none of are 0"
abbrev pub places : Item → ℕ → Places
places (Group i f a t) next = texted next t 0 0
places (Individual i f a t) next = texted next t 0 0
places (Line i f n t) next = texted next t n.start n.digits
places (Key t f) next = bare next 0 0
places (Quick i t) next = texted next t 0 0
places (Home h) next = bare next 0 0
places (Channel n i) next = bare next 0 0
places (System s) next = bare next 0 0
places (Status c i t) next = texted next t 0 0
places (Hash p) next = bare next p.start p.code
places NoHash next = bare next 0 0
places (Unknown b) next = bare next 0 0

-- none where the byte behind the parameter has no 16 bits
abbrev pub places_read : ItemRead → Places
places_read (Some (i, next)) = cond (ltb next 65536) (places i next) (bare 0 0 0)
places_read None = (bare 0 0 0)

-- 56-63 how many digits, or the HashCode; 40-55 number or hash value; 32-39 bytes of the text, two to a unit; 16-31 text; 0-15 the byte behind it
abbrev pub places_fields : Places → List Field
places_fields p = val 8 p.size ∷ val 16 p.number ∷ val 8 (p.units * 2) ∷ val 16 p.text ∷ val 16 p.next ∷ []

pub record AnswersPlaces (message : List ℕ) (at r : ℕ) : Type 0 where
  pub read : ItemRead
  pub allowed : ReadAt message at read
  pub packs : PacksFields (places_fields (places_read read)) r
