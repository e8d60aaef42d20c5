-- One parameter of a report, and its bytes: docs/REPORTS.md, "Report parameters", row by row.
use Rattle.std.specs.Prelude.{ℕ, ◌≤◌, ◌<◌, ◌≡◌, ◌≢◌, true, false, List, [], ◌∷◌, ◌++◌, map}
use Rattle.std.proofs.Math.Option.{Option, none, some}
use Rattle.writing.specs.declared.HomeNumbers.{HomeNumbers}
use Rattle.writing.specs.declared.SystemCode.{SystemCode}
use Rattle.writing.specs.Canonical.{plain}
use Rattle.writing.specs.Fields.{bits_of, Field, val, res, Shows}
use Rattle.writing.specs.Ranges.{InChannel}
use Rattle.writing.specs.Settings.{Text, Hash, unicode16}
use Rattle.writing.specs.Writing.{flag, text, number, current, to_group}
use Rattle.tables.specs.Allowed.{QuickOk, StatusOk, GroupOk, IndividualOk, LineOk, TargetOk, HomeOk, SystemOk, HashOk}
use Rattle.tables.specs.Layout.{key_address}
use Rattle.tables.specs.Tables.{GroupMember, IndividualMember, Line, Key}
use Rattle.reports.specs.declared.Asked.{Asked}
use Rattle.reports.specs.declared.Asked.TheVariants.{Groups, Individuals, Lines, Key as AKey, QuickTexts, Home, Channels, System, StatusTexts, Hash as AHash}
use Rattle.reports.specs.Types.{report_byte, NoType}

-- "A parameter is one entry", with its index as it is written; or a type that isn't supported
pub data Item : Type 0 where
  group : (place : ℕ) → GroupMember → Item
  individual : (place : ℕ) → IndividualMember → Item
  line : (place : ℕ) → Line → Item
  key : Key → Item
  quick : (index : ℕ) → Text → Item
  home : HomeNumbers → Item
  channel : (n place : ℕ) → Item
  system : SystemCode → Item
  status : (code place : ℕ) → Text → Item
  hash : Option Hash → Item
  unknown : (type : ℕ) → Item

-- the column type; an error has "the byte asked"
abbrev pub item_byte : Item → ℕ
item_byte (group p g) = report_byte Groups
item_byte (individual p x) = report_byte Individuals
item_byte (line p l) = report_byte Lines
item_byte (key k) = report_byte AKey
item_byte (quick i us) = report_byte QuickTexts
item_byte (home h) = report_byte Home
item_byte (channel n p) = report_byte Channels
item_byte (system s) = report_byte System
item_byte (status c p us) = report_byte StatusTexts
item_byte (hash h) = report_byte AHash
item_byte (unknown b) = b

-- "QryResult 1 (0 good, 1 failed) and ReasonCode 7 stand first"
abbrev pub good : List Field → List Field
good fs = flag false ∷ val 7 0 ∷ fs

-- "If a query's result is a failure, the parameter gives the error type only": 3, type not supported
abbrev pub failed : List Field
failed = flag true ∷ val 7 3 ∷ []

-- "ListCount 8, then for each HashCode 8, value"
abbrev pub kept : Option Hash → List Field
kept none = val 8 0 ∷ []
kept (some h) = val 8 1 ∷ val 8 h.code ∷ map (val 8) h.value

-- the column "fields after the type byte"
abbrev pub item_body : Item → List Field
item_body (group p g) =
    good (val 24 g.address.0 ∷ val 4 p ∷ val 2 g.flags.attribute ∷ flag g.flags.broadcast ∷ flag g.flags.encryption
    ∷ flag g.flags.ovcm ∷ flag g.flags.emergency ∷ val 2 g.flags.priority ∷ res 4 ∷ text unicode16 g.text)
item_body (individual p x) =
    good (val 24 x.address.0 ∷ val 4 p ∷ flag x.flags.encryption ∷ flag x.flags.emergency ∷ val 2 x.flags.priority ∷ text unicode16 x.text)
item_body (line p l) =
    good (flag l.flags.pabx ∷ flag l.flags.encryption ∷ flag l.flags.emergency ∷ val 2 l.flags.priority ∷ res 7 ∷ val 4 p
    ∷ number l.number ++ text unicode16 l.text)
item_body (key k) =
    good (flag (to_group k.target) ∷ flag (current k.target) ∷ flag k.flags.voice ∷ flag k.flags.status ∷ flag k.flags.siren ∷ res 3
    ∷ val 24 (key_address k.target) ∷ [])
item_body (quick i us) = good (val 6 i ∷ res 2 ∷ text unicode16 us)
item_body (home h) = good (val 9 h.nzi ∷ val 10 h.np ∷ res 5 ∷ [])
item_body (channel n p) = good (val 12 n ∷ val 12 p ∷ [])
item_body (system s) = good (val 12 s.lai ∷ val 4 s.la ∷ val 2 s.roaming ∷ flag s.par ∷ res 5 ∷ [])
item_body (status c p us) = good (val 8 c ∷ val 8 p ∷ text unicode16 us)
item_body (hash h) = kept h
item_body (unknown b) = failed

abbrev pub item_fields : Item → List Field
item_fields i = val 8 (item_byte i) ∷ item_body i

-- these bytes are a writing of the parameter, reserved bits aside
abbrev pub ItemWritten : Item → List ℕ → Type 0
ItemWritten i bs = Shows (item_fields i) (bits_of bs)

-- these bytes are a writing of the parameters, one after the other
abbrev pub ItemsWritten : List Item → List ℕ → Type 0
ItemsWritten [] bs = bs ≡ []
ItemsWritten (i ∷ l) bs = (first : List ℕ) × (rest : List ℕ) × (bs ≡ first ++ rest) × ItemWritten i first × ItemsWritten l rest

-- the bytes of a parameter, reserved bits 0
abbrev pub item_bytes : Item → List ℕ
item_bytes i = plain (item_fields i)

abbrev pub items_bytes : List Item → List ℕ
items_bytes [] = []
items_bytes (i ∷ l) = item_bytes i ++ items_bytes l

-- a hash that is kept has a code
abbrev pub InHash : Option Hash → Type 0
InHash none = Unit {0}
InHash (some h) = HashOk h × (h.code ≢ 0)

-- "ranges as in settings"; an index fits its field
abbrev pub InItem : Item → Type 0
InItem (group p g) = (p < 16) × GroupOk g
InItem (individual p x) = (p < 16) × IndividualOk x
InItem (line p l) = (p < 16) × LineOk l
InItem (key k) = TargetOk k.target
InItem (quick i us) = (i < 64) × QuickOk us
InItem (home h) = HomeOk h
InItem (channel n p) = InChannel n × (p < 4096)
InItem (system s) = SystemOk s
InItem (status c p us) = (32 ≤ c) × (c ≤ 127) × (p < 256) × StatusOk us
InItem (hash h) = InHash h
InItem (unknown b) = (b < 256) × NoType b

-- the column "least / most bytes, with the type byte"
abbrev pub least : Asked → ℕ
least Groups = 9
least Individuals = 8
least Lines = 7
least AKey = 6
least QuickTexts = 7
least Home = 5
least Channels = 5
least System = 5
least StatusTexts = 6
least AHash = 2

abbrev pub most : Asked → ℕ
most Groups = 41
most Individuals = 40
most Lines = 48
most AKey = 6
most QuickTexts = 51
most Home = 5
most Channels = 5
most System = 5
most StatusTexts = 38
most AHash = 13
