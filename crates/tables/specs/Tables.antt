-- The tables of a set, and a fresh one: document 01, "What each operation does".
use Rattle.std.specs.Prelude.{ℕ, Bool, false, List, [], replicate}
use Rattle.std.proofs.Math.Option.{Option, none}
use Rattle.plan.specs.declared.numbers.GroupAddress.{GroupAddress}
use Rattle.plan.specs.declared.numbers.IndividualAddress.{IndividualAddress}
use Rattle.writing.specs.declared.LineFlags.{LineFlags}
use Rattle.writing.specs.declared.KeyTarget.{KeyTarget}
use Rattle.writing.specs.declared.KeyTarget.TheVariants.{Current}
use Rattle.writing.specs.declared.KeyFlags.{KeyFlags}
use Rattle.writing.specs.declared.HomeNumbers.{HomeNumbers}
use Rattle.writing.specs.declared.SystemCode.{SystemCode}
use Rattle.writing.specs.declared.GroupFlags.{GroupFlags}
use Rattle.writing.specs.declared.IndividualFlags.{IndividualFlags}
use Rattle.writing.specs.Settings.{Text, Number, Hash}
use Rattle.tables.specs.Limits.{quick_places, status_places, slot_places}

-- a line contact, with the flags that it was sent with
pub record Line : Type 0 where
  pub flags : LineFlags
  pub number : Number
  pub text : Text

-- "The identity of a line is its IDtype together with its digits"
pub record LineKey : Type 0 where
  pub pabx : Bool
  pub number : Number

abbrev pub line_key : Line → LineKey
line_key l = record { pabx = l.flags.pabx; number = l.number }

-- a group or an individual in a slot or a list of contacts, by the kind of its flags and address
pub record Member (Flags Address : Type 0) : Type 0 where
  pub flags : Flags
  pub address : Address
  pub text : Text

abbrev pub GroupMember : Type 0
GroupMember = Member GroupFlags GroupAddress

abbrev pub IndividualMember : Type 0
IndividualMember = Member IndividualFlags IndividualAddress

-- the emergency key
pub record Key : Type 0 where
  pub target : KeyTarget
  pub flags : KeyFlags

-- quick texts by index, status texts by code less 32, slots by index; contacts, channels and lines in order; and the hash kept
pub record Tables : Type 0 where
  pub hash : Hash
  pub key : Key
  pub home : HomeNumbers
  pub system : SystemCode
  pub quick : List (Option Text)
  pub status : List (Option Text)
  pub groups : List (Option GroupMember)
  pub individuals : List (Option IndividualMember)
  pub line_slots : List (Option Line)
  pub group_contacts : List GroupMember
  pub individual_contacts : List IndividualMember
  pub channels : List ℕ
  pub lines : List Line

-- no hash is kept
abbrev pub no_hash : Hash
no_hash = record { code = 0; value = [] }

-- "A fresh store has empty tables, CB with current 1 and all else 0, CD and CF all 0, no hash"
abbrev pub fresh : Tables
fresh = record {
  hash = no_hash;
  key = record { target = Current false; flags = record { voice = false; status = false; siren = false } };
  home = record { nzi = 0; np = 0 };
  system = record { lai = 0; la = 0; roaming = 0; par = false };
  quick = replicate quick_places none;
  status = replicate status_places none;
  groups = replicate slot_places none;
  individuals = replicate slot_places none;
  line_slots = replicate slot_places none;
  group_contacts = [];
  individual_contacts = [];
  channels = [];
  lines = [];
}
