-- What bytes a setting is written as: document 01, "The ten settings", the table's columns type and fields, row by row, and since A4 three more rows.
use Rattle.std.specs.Prelude.{ℕ, zero, suc, ◌+◌, ◌/◌, ◌≤◌, ◌≡◌, List, [], ◌∷◌, ◌++◌, map, Bool, true, false, length}
use Rattle.plan.specs.declared.numbers.GroupAddress.{GroupAddress}
use Rattle.plan.specs.declared.numbers.IndividualAddress.{IndividualAddress}
use Rattle.writing.specs.declared.Kind.{Kind}
use Rattle.writing.specs.declared.Kind.TheVariants.{GroupContacts, IndividualContacts, Lines, Key, QuickTexts, Home, Channels, System, StatusTexts, Group, Individual, LineSlot, Last}
use Rattle.writing.specs.declared.Operation.{Operation}
use Rattle.writing.specs.declared.Operation.TheVariants.{Add, Delete, Replace}
use Rattle.writing.specs.declared.KeyTarget.{KeyTarget}
use Rattle.writing.specs.declared.KeyTarget.TheVariants.{Current, ToGroup, ToIndividual}
use Rattle.writing.specs.Fields.{bits_of, Field, val, item, res, Shows, widths, each}
use Rattle.writing.specs.declared.Coding.{Coding}
use Rattle.writing.specs.declared.Coding.TheVariants.{Unicode16, EightBit}
use Rattle.writing.specs.Settings.{Text, Number, Contact, Addressed, Entry, Slot, Hash, Setting, group_contacts, individual_contacts, lines, key, quick_texts, home, channels, system, status_texts, group, individual, line_slot, last, kind}

-- ---- parts of the fields

abbrev pub bit : Bool → ℕ
bit false = 0
bit true = 1

abbrev pub flag : Bool → Field
flag b = val 1 (bit b)

-- "Op: 01 add, 10 delete, 11 replace"
abbrev pub op_code : Operation → ℕ
op_code Add = 1
op_code Delete = 2
op_code Replace = 3

abbrev pub op : Operation → Field
op o = val 2 (op_code o)

-- "Text: 16-bit units, ended by unit 0000"; under 0100 "eight-bit characters ended by one zero byte"
abbrev pub unit_width : Coding → ℕ
unit_width Unicode16 = 16
unit_width EightBit = 8

abbrev pub text : Coding → Text → List Field
text c us = map (item (unit_width c) 0) us ++ val (unit_width c) 0 ∷ []

-- "1111 once more if needed to fill the byte": where the half bytes before it are odd in number
abbrev pub fill : ℕ → List Field
fill zero = []
fill (suc zero) = val 4 15 ∷ []
fill (suc (suc n)) = fill n

-- "Number: digits as 4-bit digits, then 1111, then 1111 once more if needed"
abbrev pub number : Number → List Field
number ds = map (item 4 15) ds ++ val 4 15 ∷ fill (suc (length ds))

-- "each: number, text"
abbrev pub contact : Coding → Contact → List Field
contact c e = number e.number ++ text c e.text

-- "each: reserved 2, index 6, text"
abbrev pub quick_text : Coding → Entry → List Field
quick_text c e = res 2 ∷ val 6 e.index ∷ text c e.text

-- "each: code 8, text"
abbrev pub status_text : Coding → Entry → List Field
status_text c e = val 8 e.index ∷ text c e.text

-- "address 24"
abbrev pub address : ℕ → List Field
address a = val 24 a ∷ []

-- "each: address 24, text", by the number of its kind of address
abbrev pub addressed : {Address : Type 0} → (Address → ℕ) → Coding → Addressed Address → List Field
addressed number_of_lem c e = address (number_of_lem e.address) ++ text c e.text

-- "index 4, address 24, text", by the fields of its kind of address; of a line slot "index 4, number, text"
abbrev pub slot : {Address : Type 0} → (Address → List Field) → Coding → Slot Address → List Field
slot address_of c s = val 4 s.index ∷ address_of s.address ++ text c s.text

-- "current 1, group 1"
abbrev pub current : KeyTarget → Bool
current (Current g) = true
current (ToGroup a) = false
current (ToIndividual a) = false

abbrev pub to_group : KeyTarget → Bool
to_group (Current g) = g
to_group (ToGroup a) = true
to_group (ToIndividual a) = false

-- "address 24 if current is 0"
abbrev pub key_address : KeyTarget → List Field
key_address (Current g) = []
key_address (ToGroup a) = address a.0
key_address (ToIndividual a) = address a.0

-- "HashCode (6), the hash value"
abbrev pub hash : Hash → List Field
hash h = val 6 h.code ∷ map (val 8) h.value

-- ---- the table

-- the column type
abbrev pub type_byte : Kind → ℕ
type_byte GroupContacts = 0xC8
type_byte IndividualContacts = 0xC9
type_byte Lines = 0xCA
type_byte Key = 0xCB
type_byte QuickTexts = 0xCC
type_byte Home = 0xCD
type_byte Channels = 0xCE
type_byte System = 0xCF
type_byte StatusTexts = 0xD0
type_byte Group = 0xD1
type_byte Individual = 0xD2
type_byte LineSlot = 0xD3
type_byte Last = 0xFF

-- the column "fields after DataLength"
abbrev pub body : Coding → Setting → List Field
body c (group_contacts o f es) =
    op o ∷ val 2 f.attribute ∷ flag f.broadcast ∷ flag f.encryption ∷ flag f.ovcm ∷ flag f.emergency
    ∷ val 2 f.priority ∷ res 6 ∷ val 8 (length es) ∷ each (addressed (λ a. a.0) c) es
body c (individual_contacts o f es) =
    op o ∷ flag f.encryption ∷ flag f.emergency ∷ val 2 f.priority ∷ res 2
    ∷ val 8 (length es) ∷ each (addressed (λ a. a.0) c) es
body c (lines o f es) =
    op o ∷ flag f.encryption ∷ flag f.emergency ∷ val 2 f.priority ∷ flag f.pabx ∷ res 1
    ∷ val 8 (length es) ∷ each (contact c) es
body c (key t f) =
    flag (current t) ∷ flag (to_group t) ∷ flag f.voice ∷ flag f.status ∷ flag f.siren ∷ res 3 ∷ key_address t
body c (quick_texts o es) = op o ∷ val 6 (length es) ∷ each (quick_text c) es
body c (home h) = val 9 h.nzi ∷ val 10 h.np ∷ res 5 ∷ []
body c (channels o es) = op o ∷ res 4 ∷ val 10 (length es) ∷ map (val 12) es ++ fill (length es)
body c (system s) = val 12 s.lai ∷ val 4 s.la ∷ val 2 s.roaming ∷ flag s.par ∷ res 5 ∷ []
body c (status_texts o es) = op o ∷ res 6 ∷ val 8 (length es) ∷ each (status_text c) es
body c (group o f s) =
    op o ∷ val 2 f.attribute ∷ flag f.broadcast ∷ flag f.encryption ∷ flag f.ovcm ∷ flag f.emergency
    ∷ val 2 f.priority ∷ res 2 ∷ slot (λ a. address a.0) c s
body c (individual o f s) =
    op o ∷ flag f.encryption ∷ flag f.emergency ∷ val 2 f.priority ∷ res 6 ∷ slot (λ a. address a.0) c s
body c (line_slot o f s) =
    op o ∷ flag f.encryption ∷ flag f.emergency ∷ val 2 f.priority ∷ flag f.pabx ∷ res 5 ∷ slot number c s
body c (last f h) = flag f.reboot ∷ flag f.reply ∷ hash h

-- "DataLength (16 bits, counting itself and all that follows in the setting)", in bytes
abbrev pub data_length : Coding → Setting → ℕ
data_length c s = 2 + widths (body c s) / 8

-- "Each is a type byte, DataLength, then fields"
abbrev pub fields : Coding → Setting → List Field
fields c s = val 8 (type_byte (kind s)) ∷ val 16 (data_length c s) ∷ body c s

-- ---- the writing

-- these bytes are a writing of the setting, reserved bits aside
abbrev pub Written : Coding → Setting → List ℕ → Type 0
Written c s bs = Shows (fields c s) (bits_of bs)

-- these bytes are a writing of the settings, one after the other
abbrev pub WrittenAll : Coding → List Setting → List ℕ → Type 0
WrittenAll c [] bs = bs ≡ []
WrittenAll c (s ∷ ss) bs = (first : List ℕ) × (rest : List ℕ) × (bs ≡ first ++ rest) × Written c s first × WrittenAll c ss rest

-- "OTAPVer (5 bits; house: 1) and MsgType (3 bits)", then "ParamSum (8 bits, 1 to 255)"
abbrev pub request_head : ℕ → List Field
request_head count = val 5 1 ∷ val 3 0 ∷ val 8 count ∷ []

-- the settings are written as these data bytes of a request: "Only a list of 1 to 255 settings has a writing"
pub record WrittenAs (c : Coding) (ss : List Setting) (data_bytes : List ℕ) : Type 0 where
  pub some_setting : 1 ≤ length ss
  pub head : List ℕ
  pub settings : List ℕ
  pub parts : data_bytes ≡ head ++ settings
  pub counted : Shows (request_head (length ss)) (bits_of head)
  pub written : WrittenAll c ss settings
