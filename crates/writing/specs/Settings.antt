-- What a setting says: document 01, "The ten settings", and since A4 three more. Operations, flags and fixed contents are the structs of src/.
use Rattle.std.specs.Prelude.{ℕ, Bool, true, false, List, [], ◌∷◌, map}
use Rattle.plan.specs.declared.numbers.GroupAddress.{GroupAddress}
use Rattle.plan.specs.declared.numbers.IndividualAddress.{IndividualAddress}
use Rattle.writing.specs.declared.Kind.{Kind}
use Rattle.writing.specs.declared.Kind.TheVariants.{GroupContacts, IndividualContacts, Lines, Key, QuickTexts, Home, Channels, System, StatusTexts, Group, Individual, LineSlot, Last}
use Rattle.writing.specs.declared.Operation.{Operation}
use Rattle.writing.specs.declared.Coding.{Coding}
use Rattle.writing.specs.declared.Coding.TheVariants.{Unicode16, EightBit}
use Rattle.writing.specs.declared.LineFlags.{LineFlags}
use Rattle.writing.specs.declared.KeyTarget.{KeyTarget}
use Rattle.writing.specs.declared.KeyFlags.{KeyFlags}
use Rattle.writing.specs.declared.HomeNumbers.{HomeNumbers}
use Rattle.writing.specs.declared.SystemCode.{SystemCode}
use Rattle.writing.specs.declared.GroupFlags.{GroupFlags}
use Rattle.writing.specs.declared.IndividualFlags.{IndividualFlags}
use Rattle.writing.specs.declared.LastFlags.{LastFlags}

-- a text's units, without the end unit
abbrev pub Text : Type 0
Text = List ℕ

-- a number's digits, without the end mark
abbrev pub Number : Type 0
Number = List ℕ

-- a line contact
pub record Contact : Type 0 where
  pub number : Number
  pub text : Text

-- a group or an individual contact, by the kind of its address
pub record Addressed (Address : Type 0) : Type 0 where
  pub address : Address
  pub text : Text

-- a quick text by its index, a status text by its code
pub record Entry : Type 0 where
  pub index : ℕ
  pub text : Text

-- a group or an individual slot, by the kind of its address; a line slot, whose address is a number
pub record Slot (Address : Type 0) : Type 0 where
  pub index : ℕ
  pub address : Address
  pub text : Text

-- a hash: its code, and the bytes of its value
pub record Hash : Type 0 where
  pub code : ℕ
  pub value : List ℕ

-- the thirteen settings, each with its operation inside it
pub data Setting : Type 0 where
  group_contacts : Operation → GroupFlags → List (Addressed GroupAddress) → Setting
  individual_contacts : Operation → IndividualFlags → List (Addressed IndividualAddress) → Setting
  lines : Operation → LineFlags → List Contact → Setting
  key : KeyTarget → KeyFlags → Setting
  quick_texts : Operation → List Entry → Setting
  home : HomeNumbers → Setting
  channels : Operation → List ℕ → Setting
  system : SystemCode → Setting
  status_texts : Operation → List Entry → Setting
  group : Operation → GroupFlags → Slot GroupAddress → Setting
  individual : Operation → IndividualFlags → Slot IndividualAddress → Setting
  line_slot : Operation → LineFlags → Slot Number → Setting
  last : LastFlags → Hash → Setting

-- which of the thirteen it is
abbrev pub kind : Setting → Kind
kind (group_contacts o f es) = GroupContacts
kind (individual_contacts o f es) = IndividualContacts
kind (lines o f es) = Lines
kind (key t f) = Key
kind (quick_texts o es) = QuickTexts
kind (home h) = Home
kind (channels o es) = Channels
kind (system s) = System
kind (status_texts o es) = StatusTexts
kind (group o f s) = Group
kind (individual o f s) = Individual
kind (line_slot o f s) = LineSlot
kind (last f h) = Last

-- the texts that it carries
abbrev pub texts : Setting → List Text
texts (group_contacts o f es) = map (λ e. e.text) es
texts (individual_contacts o f es) = map (λ e. e.text) es
texts (lines o f es) = map (λ e. e.text) es
texts (key t f) = []
texts (quick_texts o es) = map (λ e. e.text) es
texts (home h) = []
texts (channels o es) = []
texts (system s) = []
texts (status_texts o es) = map (λ e. e.text) es
texts (group o f s) = s.text ∷ []
texts (individual o f s) = s.text ∷ []
texts (line_slot o f s) = s.text ∷ []
texts (last f h) = []

-- "0111 (16-bit Unicode)"
abbrev pub unicode16 : Coding
unicode16 = Unicode16

-- "0100, eight-bit characters"
abbrev pub eight_bit : Coding
eight_bit = EightBit
