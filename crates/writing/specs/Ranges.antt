-- Which settings are in range: document 01, "The ten settings", its table and the rules below it, and since A4 three more.
use Rattle.std.specs.Prelude.{ℕ, ◌%◌, ◌^◌, ◌≤◌, ◌≡◌, ◌≢◌, List, [], ◌∷◌, length}
use Rattle.lists.specs.Every.{All}
use Rattle.writing.specs.declared.Operation.{Operation}
use Rattle.writing.specs.declared.Operation.TheVariants.{Add, Delete, Replace}
use Rattle.writing.specs.declared.KeyTarget.{KeyTarget}
use Rattle.writing.specs.declared.KeyTarget.TheVariants.{Current, ToGroup, ToIndividual}
use Rattle.writing.specs.Settings.{Text, Number, Contact, Addressed, Entry, Slot, Hash, Setting, group_contacts, individual_contacts, lines, key, quick_texts, home, channels, system, status_texts, group, individual, line_slot, last}

-- the most units before the end: of any text, and of a quick text
pub record TextLimits : Type 0 where
  pub short : ℕ
  pub quick : ℕ

-- "At most 16 units before the end, 23 in quick texts"
abbrev pub text_limits : TextLimits
text_limits = record { short = 16; quick = 23 }

-- "Number: 1 to 18 digits .. 0 to 9"
abbrev pub InNumber : Number → Type 0
InNumber ds = (1 ≤ length ds) × (length ds ≤ 18) × All (◌≤ 9) ds

-- "Address: at least 100000 hex, with its low 15 bits not 0"
abbrev pub InAddress : ℕ → Type 0
InAddress a = (0x100000 ≤ a) × (a % 2 ^ 15 ≢ 0)

-- "Channel: 241 to 640, the paired channels"
abbrev pub InChannel : ℕ → Type 0
InChannel n = (241 ≤ n) × (n ≤ 640)

-- "A quick text is not empty, except in a delete"
abbrev pub InQuick : TextLimits → Operation → Entry → Type 0
InQuick k Add e = (1 ≤ length e.text) × (length e.text ≤ k.quick)
InQuick k Delete e = length e.text ≤ k.quick
InQuick k Replace e = (1 ≤ length e.text) × (length e.text ≤ k.quick)

-- "code 8 (32 to 127), text"
abbrev pub InStatus : TextLimits → Entry → Type 0
InStatus k e = (32 ≤ e.index) × (e.index ≤ 127) × (length e.text ≤ k.short)

abbrev pub InContact : TextLimits → Contact → Type 0
InContact k e = InNumber e.number × (length e.text ≤ k.short)

-- "Other deletes hold every field to its range": a contact's address, by its number, and its text
abbrev pub InAddressed : {Address : Type 0} → (Address → ℕ) → TextLimits → Addressed Address → Type 0
InAddressed number_of_lem k e = InAddress (number_of_lem e.address) × (length e.text ≤ k.short)

abbrev pub InTarget : KeyTarget → Type 0
InTarget (Current g) = Unit {0}
InTarget (ToGroup a) = InAddress a.0
InTarget (ToIndividual a) = InAddress a.0

-- "11 [is out of range] in D1 and D2"; "In a D1 or D2 delete only the index counts: attribute and address are free, the text must be well formed"
abbrev pub InSlot : Operation → Type 0 → Type 0
InSlot Add P = P
InSlot Delete P = Unit {0}
InSlot Replace P = ⊥

-- 11 is out of range in D3, of which every other field is held to its range, in a delete too
abbrev pub NotReplace : Operation → Type 0
NotReplace Add = Unit {0}
NotReplace Delete = Unit {0}
NotReplace Replace = ⊥

-- "The hash value has 0, 4 or 10 bytes for codes 0, 1, 2; other codes are out of range"
pub data HashSize : ℕ → ℕ → Type 0 where
  no_hash : HashSize 0 0
  hash_4 : HashSize 1 4
  hash_10 : HashSize 2 10

-- the setting is in range, where so many settings are still counted after it: "An FF that isn't the last setting counted is itself at fault"
abbrev pub InRange : TextLimits → ℕ → Setting → Type 0
InRange k left (group_contacts o f es) = (f.attribute ≢ 0) × All (InAddressed (λ a. a.0) k) es
InRange k left (individual_contacts o f es) = All (InAddressed (λ a. a.0) k) es
InRange k left (lines o f es) = All (InContact k) es
InRange k left (key t f) = InTarget t
InRange k left (quick_texts o es) = All (InQuick k o) es
InRange k left (home h) = h.np ≤ 806
InRange k left (channels o es) = All InChannel es
InRange k left (system s) = (s.la ≤ 8) × (s.roaming ≢ 3)
InRange k left (status_texts o es) = All (InStatus k) es
InRange k left (group o f s) = InSlot o ((f.attribute ≢ 0) × InAddress s.address.0) × (length s.text ≤ k.short)
InRange k left (individual o f s) = InSlot o (InAddress s.address.0) × (length s.text ≤ k.short)
InRange k left (line_slot o f s) = NotReplace o × InNumber s.address × (length s.text ≤ k.short)
InRange k left (last f h) = HashSize h.code (length h.value) × (left ≡ 0)
