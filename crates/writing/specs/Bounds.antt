-- The rules' table of the thirteen settings, the columns "least / most" and the operations allowed.
use Rattle.std.specs.Prelude.{ℕ, ◌+◌, ◌*◌, ◌/◌, ◌≤◌}
use Rattle.std.proofs.Math.Option.{Option, none, some}
use Rattle.writing.specs.declared.Kind.{Kind}
use Rattle.writing.specs.declared.Kind.TheVariants.{GroupContacts, IndividualContacts, Lines, Key, QuickTexts, Home, Channels, System, StatusTexts, Group, Individual, LineSlot, Last}
use Rattle.writing.specs.declared.Operation.{Operation}
use Rattle.writing.specs.declared.Operation.TheVariants.{Add, Delete, Replace}
use Rattle.writing.specs.declared.Operations.{Operations}
use Rattle.writing.specs.declared.Operations.TheVariants.{NoOperation, AnyOperation, AddOrDelete}
use Rattle.writing.specs.Ranges.{TextLimits}
use Rattle.writing.specs.declared.Coding.{Coding}
use Rattle.writing.specs.Settings.{Setting, group_contacts, individual_contacts, lines, key, quick_texts, home, channels, system, status_texts, group, individual, line_slot, last}
use Rattle.writing.specs.Writing.{unit_width}

-- the operation is among them
abbrev pub Allows : Operations → Operation → Type 0
Allows NoOperation o = ⊥
Allows AnyOperation o = Unit {0}
Allows AddOrDelete Add = Unit {0}
Allows AddOrDelete Delete = Unit {0}
Allows AddOrDelete Replace = ⊥

-- the operation of a setting, if it has one
abbrev pub operation : Setting → Option Operation
operation (group_contacts o f es) = some o
operation (individual_contacts o f es) = some o
operation (lines o f es) = some o
operation (key t f) = none
operation (quick_texts o es) = some o
operation (home h) = none
operation (channels o es) = some o
operation (system s) = none
operation (status_texts o es) = some o
operation (group o f s) = some o
operation (individual o f s) = some o
operation (line_slot o f s) = some o
operation (last f h) = none

-- a row: the least and, where fixed, the most of DataLength, and the operations
pub record Bounds : Type 0 where
  pub least : ℕ
  pub most : Option ℕ
  pub operations : Operations

-- so many bytes have an empty text, and a longest one
abbrev pub no_text : Coding → ℕ
no_text c = unit_width c / 8

abbrev pub longest_text : Coding → TextLimits → ℕ
longest_text c k = (k.short + 1) * (unit_width c / 8)

-- the thirteen rows; a number has 1 to 18 digits, in 1 to 10 bytes
abbrev pub bounds : Coding → TextLimits → Kind → Bounds
bounds c k GroupContacts = record { least = 5; most = none; operations = AnyOperation }
bounds c k IndividualContacts = record { least = 4; most = none; operations = AnyOperation }
bounds c k Lines = record { least = 4; most = none; operations = AnyOperation }
bounds c k Key = record { least = 3; most = some 6; operations = NoOperation }
bounds c k QuickTexts = record { least = 3; most = none; operations = AnyOperation }
bounds c k Home = record { least = 5; most = some 5; operations = NoOperation }
bounds c k Channels = record { least = 4; most = none; operations = AnyOperation }
bounds c k System = record { least = 5; most = some 5; operations = NoOperation }
bounds c k StatusTexts = record { least = 4; most = none; operations = AnyOperation }
bounds c k Group = record { least = 7 + no_text c; most = some (7 + longest_text c k); operations = AddOrDelete }
bounds c k Individual = record { least = 7 + no_text c; most = some (7 + longest_text c k); operations = AddOrDelete }
bounds c k LineSlot = record { least = 5 + no_text c; most = some (14 + longest_text c k); operations = AddOrDelete }
bounds c k Last = record { least = 3; most = some 13; operations = NoOperation }

-- a DataLength within the row
abbrev pub AtMost : Option ℕ → ℕ → Type 0
AtMost none n = Unit {0}
AtMost (some most) n = n ≤ most

pub record Within (r : Bounds) (data_length : ℕ) : Type 0 where
  pub least : r.least ≤ data_length
  pub most : AtMost r.most data_length
