-- The types of a query and of a report: docs/REPORTS.md, "Report parameters", the columns asked and report.
use Rattle.std.specs.Prelude.{ℕ, cond, ◌≢◌, List, [], ◌∷◌, eqb}
use Rattle.std.proofs.Math.Option.{Option, none, some}
use Rattle.writing.specs.declared.Kind.{Kind}
use Rattle.writing.specs.declared.Kind.TheVariants as K
use Rattle.writing.specs.Writing.{type_byte}
use Rattle.reports.specs.declared.Asked.{Asked}
use Rattle.reports.specs.declared.Asked.TheVariants.{Groups, Individuals, Lines, Key, QuickTexts, Home, Channels, System, StatusTexts, Hash}

-- whose table is asked for: that of the settings of this kind
abbrev pub kind_asked : Asked → Kind
kind_asked Groups = K.GroupContacts
kind_asked Individuals = K.IndividualContacts
kind_asked Lines = K.Lines
kind_asked Key = K.Key
kind_asked QuickTexts = K.QuickTexts
kind_asked Home = K.Home
kind_asked Channels = K.Channels
kind_asked System = K.System
kind_asked StatusTexts = K.StatusTexts
kind_asked Hash = K.Last

-- the byte that asks: "C8 to D0 and FF", as in a setting
abbrev pub ask_byte : Asked → ℕ
ask_byte a = type_byte (kind_asked a)

-- the byte that answers: "88 to 90 and BF"
abbrev pub report_byte : Asked → ℕ
report_byte Groups = 0x88
report_byte Individuals = 0x89
report_byte Lines = 0x8A
report_byte Key = 0x8B
report_byte QuickTexts = 0x8C
report_byte Home = 0x8D
report_byte Channels = 0x8E
report_byte System = 0x8F
report_byte StatusTexts = 0x90
report_byte Hash = 0xBF

abbrev pub all_asked : List Asked
all_asked = Groups ∷ Individuals ∷ Lines ∷ Key ∷ QuickTexts ∷ Home ∷ Channels ∷ System ∷ StatusTexts ∷ Hash ∷ []

-- the first of these that a byte asks for
abbrev pub first_asked : ℕ → List Asked → Option Asked
first_asked b [] = none
first_asked b (a ∷ l) = cond (eqb (ask_byte a) b) (some a) (first_asked b l)

-- what a byte asks for
abbrev pub asked_by : ℕ → Option Asked
asked_by b = first_asked b all_asked

-- a type that isn't supported
abbrev pub NoType : ℕ → Type 0
NoType b = (a : Asked) → ask_byte a ≢ b
