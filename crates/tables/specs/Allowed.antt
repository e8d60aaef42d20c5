-- Which tables the rules allow: the ranges of the settings, the room, one line to a key and one contact to an address.
use Rattle.std.specs.Prelude.{ℕ, ◌≤◌, ◌<◌, ◌≡◌, ◌≢◌, List, length}
use Rattle.std.proofs.Math.Option.{Option}
use Rattle.lists.specs.Every.{All}
use Rattle.slots.specs.Slots.{Present}
use Rattle.counted_lists.specs.Counted.{Distinct}
use Rattle.writing.specs.declared.KeyTarget.{KeyTarget}
use Rattle.writing.specs.declared.KeyTarget.TheVariants.{Current, ToGroup, ToIndividual}
use Rattle.writing.specs.declared.HomeNumbers.{HomeNumbers}
use Rattle.writing.specs.declared.SystemCode.{SystemCode}
use Rattle.writing.specs.Ranges.{text_limits, InNumber, InAddress, InChannel, HashSize}
use Rattle.writing.specs.Settings.{Text, Hash}
use Rattle.tables.specs.declared.limits.Limits.{Limits}
use Rattle.tables.specs.Limits.{quick_places, status_places, slot_places, contact_places}
use Rattle.tables.specs.declared.members.Members.TheVariants.{OfGroups, OfIndividuals}
use Rattle.tables.specs.MemberKinds.{contact_key}
use Rattle.tables.specs.Tables.{Line, line_key, GroupMember, IndividualMember, Tables}
use Rattle.tables.specs.Texts.{text_sum, TextRoom}

-- "At most 16 units before the end, 23 in quick texts", none of them 0
pub record TextOk (limit : ℕ) (us : Text) : Type 0 where
  pub short : length us ≤ limit
  pub units : All (λ u. (u ≢ 0) × (u < 65536)) us

-- "A quick text is not empty"
pub record QuickOk (us : Text) : Type 0 where
  pub some_unit : 1 ≤ length us
  pub text : TextOk text_limits.quick us

abbrev pub StatusOk : Text → Type 0
StatusOk us = TextOk text_limits.short us

-- an address in range, which has 24 bits
abbrev pub AddressOk : ℕ → Type 0
AddressOk a = InAddress a × (a < 16777216)

pub record LineOk (l : Line) : Type 0 where
  pub priority : l.flags.priority < 4
  pub number : InNumber l.number
  pub text : TextOk text_limits.short l.text

pub record GroupOk (g : GroupMember) : Type 0 where
  pub attribute : (g.flags.attribute ≢ 0) × (g.flags.attribute < 4)
  pub priority : g.flags.priority < 4
  pub address : AddressOk g.address.0
  pub text : TextOk text_limits.short g.text

pub record IndividualOk (i : IndividualMember) : Type 0 where
  pub priority : i.flags.priority < 4
  pub address : AddressOk i.address.0
  pub text : TextOk text_limits.short i.text

abbrev pub TargetOk : KeyTarget → Type 0
TargetOk (Current g) = Unit {0}
TargetOk (ToGroup a) = AddressOk a.0
TargetOk (ToIndividual a) = AddressOk a.0

pub record HomeOk (h : HomeNumbers) : Type 0 where
  pub nzi : h.nzi < 512
  pub np : h.np ≤ 806

pub record SystemOk (s : SystemCode) : Type 0 where
  pub lai : s.lai < 4096
  pub la : s.la ≤ 8
  pub roaming : s.roaming < 3

pub record HashOk (h : Hash) : Type 0 where
  pub size : HashSize h.code (length h.value)
  pub bytes : All (◌< 256) h.value

-- the tables that a set with these limits can hold; no two lines have one key, and no two contacts of a list one address; their texts have room together
pub record Allowed (lim : Limits) (t : Tables) : Type 0 where
  pub hash : HashOk t.hash
  pub key : TargetOk t.key.target
  pub home : HomeOk t.home
  pub system : SystemOk t.system
  pub quick : (length t.quick ≡ quick_places) × All (Present QuickOk) t.quick
  pub status : (length t.status ≡ status_places) × All (Present StatusOk) t.status
  pub groups : (length t.groups ≡ slot_places) × All (Present GroupOk) t.groups
  pub individuals : (length t.individuals ≡ slot_places) × All (Present IndividualOk) t.individuals
  pub line_slots : (length t.line_slots ≡ slot_places) × All (Present LineOk) t.line_slots
  pub group_contacts : (length t.group_contacts ≤ contact_places) × All GroupOk t.group_contacts
  pub distinct_groups : Distinct (contact_key OfGroups) t.group_contacts
  pub individual_contacts : (length t.individual_contacts ≤ contact_places) × All IndividualOk t.individual_contacts
  pub distinct_individuals : Distinct (contact_key OfIndividuals) t.individual_contacts
  pub channels : (length t.channels ≤ lim.channels) × All InChannel t.channels
  pub lines : (length t.lines ≤ lim.lines) × All LineOk t.lines
  pub distinct : Distinct line_key t.lines
  pub texts : TextRoom lim.texts (text_sum t)

-- ---- inner steps: no promise cites these

-- an indexed table with n places
abbrev pub PlacesOk : {A : Type 0} → (A → Type 0) → ℕ → List (Option A) → Type 0
PlacesOk P n os = (length os ≡ n) × All (Present P) os

-- a list table with at most n entries
abbrev pub ListOk : {A : Type 0} → (A → Type 0) → ℕ → List A → Type 0
ListOk P n xs = (length xs ≤ n) × All P xs

-- at most n entries, each with a key of its own
abbrev pub KeyedOk : {A K : Type 0} → (A → Type 0) → (A → K) → ℕ → List A → Type 0
KeyedOk P key n xs = ListOk P n xs × Distinct key xs

abbrev pub LinesOk : ℕ → List Line → Type 0
LinesOk n ls = KeyedOk LineOk line_key n ls
