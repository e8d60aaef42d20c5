-- What the functions that change a region with a place for each entry promise: its bytes at exit, for every table that its bytes at entry are.
use Rattle.std.specs.Prelude.{ℕ, ◌+◌, ◌-◌, ◌*◌, ◌<◌, ◌≡◌, Bool, true, false, List, ◌++◌, map, length, take, drop, set, replicate}
use Rattle.std.proofs.Math.Option.{Option, none, some}
use Rattle.lists.specs.Every.{All}
use Rattle.slots.specs.Slots.{zeros?, Present, Placed}
use Rattle.writing.specs.declared.Coding.{Coding}
use Rattle.writing.specs.declared.GroupFlags.{GroupFlags}
use Rattle.writing.specs.declared.IndividualFlags.{IndividualFlags}
use Rattle.writing.specs.declared.KeyFlags.{KeyFlags}
use Rattle.writing.specs.declared.KeyTarget.{KeyTarget}
use Rattle.writing.specs.declared.LineFlags.{LineFlags}
use Rattle.writing.specs.declared.Operation.{Operation}
use Rattle.writing.specs.declared.Operation.TheVariants.{Add, Delete, Replace}
use Rattle.writing.specs.declared.SystemCode.{SystemCode}
use Rattle.writing.specs.Fields.{Field, each, val}
use Rattle.writing.specs.Ranges.{text_limits, InQuick, InStatus, HashSize}
use Rattle.writing.specs.Settings.{Text, Contact, Entry}
use Rattle.writing.specs.Writing.{quick_text, status_text}
use Rattle.read_fields.specs.Entries.{ContactIs, EntryIs, QuickFrom}
use Rattle.read_fields.specs.TextsAndNumbers.{TextIs}
use Rattle.read_fields.specs.Places.{FieldsAt}
use Rattle.settings.specs.Meant.{EntriesAre}
use Rattle.read_fields.specs.declared.entries.EntryPlace.{EntryPlace}
use Rattle.read_fields.specs.declared.hashes.HashPlace.{HashPlace}
use Rattle.settings.specs.declared.settings.Entries.{Entries}
use Rattle.settings.specs.declared.settings.GroupPlace.{GroupPlace}
use Rattle.settings.specs.declared.settings.IndividualPlace.{IndividualPlace}
use Rattle.settings.specs.declared.settings.LinePlace.{LinePlace}
use Rattle.read_fields.specs.declared.texts.TextPlace.{TextPlace}
use Rattle.tables.specs.Allowed.{QuickOk, StatusOk, LineOk}
use Rattle.tables.specs.Apply.{in_turn, start_from, quick_step, status_step, slot_after, line_of}
use Rattle.tables.specs.Layout.{quick_bytes, quick_width, status_bytes, status_width, member_width, line_bytes, line_width, key_address, key_bytes, system_bytes, hash_bytes}
use Rattle.tables.specs.declared.members.Members.{Members}
use Rattle.tables.specs.declared.members.Members.TheVariants.{OfGroups, OfIndividuals}
use Rattle.tables.specs.MemberKinds.{FlagsIn, AddressIn, MemberIn, number_of}
use Rattle.tables.specs.Members.{member_ok, flags_of, member_bytes}
use Rattle.tables.specs.Limits.{quick_places, status_places, slot_places}
use Rattle.tables.specs.Tables.{Line, GroupMember, IndividualMember}
use Rattle.tables.specs.Changing.{Changed, SlotFilled}
use Rattle.store_places.specs.declared.texts.TextTable.{TextTable}
use Rattle.store_places.specs.declared.texts.TextTable.TheVariants.{Quick, Status}

-- ---- quick texts and status texts

-- how an entry is written
abbrev pub entry_form : TextTable → Coding → Entry → List Field
entry_form Quick c = quick_text c
entry_form Status c = status_text c

-- which entries are in range of an operation
abbrev pub InTexts : TextTable → Operation → Entry → Type 0
InTexts Quick o e = InQuick text_limits o e
InTexts Status o e = InStatus text_limits e

-- what an entry makes of the table
abbrev pub text_step : TextTable → Operation → Entry → List (Option Text) → Option (List (Option Text))
text_step Quick = quick_step
text_step Status = status_step

-- which texts the table may have
abbrev pub TextIn : TextTable → Text → Type 0
TextIn Quick = QuickOk
TextIn Status = StatusOk

-- their bytes, and how many these are
abbrev pub text_code : TextTable → Text → List ℕ
text_code Quick = quick_bytes
text_code Status = status_bytes

abbrev pub text_width : TextTable → ℕ
text_width Quick = quick_width
text_width Status = status_width

-- how many places it has
abbrev pub text_places : TextTable → ℕ
text_places Quick = quick_places
text_places Status = status_places

-- the bytes are the texts of the table
abbrev pub TextsAre : TextTable → List (Option Text) → List ℕ → Type 0
TextsAre k ts s = Placed (TextIn k) (text_width k) (text_code k) (text_places k) ts s

-- what the entries make of the table
abbrev pub TextsApplied : TextTable → List ℕ → Operation → Entries → List ℕ → List ℕ → Type 0
TextsApplied k m o p s t =
    (es : List Entry) → EntriesAre (λ c. each (entry_form k c)) m p es → All (InTexts k o) es
    → Changed (TextsAre k) (λ ts. in_turn (text_step k o) es (start_from o (replicate (text_places k) none) ts)) s t

-- inner steps: the entries that are read, whatever the operation
abbrev pub Readable : TextTable → Entry → Type 0
Readable Quick = QuickFrom text_limits 0
Readable Status = InStatus text_limits

-- the place of an index, and of a code
abbrev pub text_place : TextTable → ℕ → ℕ
text_place Quick i = i
text_place Status i = i - 32

-- one entry
abbrev pub TextStep : TextTable → List ℕ → Operation → EntryPlace → List ℕ → List ℕ → Type 0
TextStep k m o p s t =
    (e : Entry) → EntryIs m p e → text_place k e.index < text_places k → InTexts k o e → Changed (TextsAre k) (text_step k o e) s t

-- ---- slots of a head and a text

-- whether a slot may be filled: one that is to be kept only where it is empty
abbrev pub free? : Bool → List ℕ → Bool
free? true s = zeros? s
free? false s = true

-- a slot that may be filled becomes the head and the text's bytes, and another stays
pub record SlotPut (keep : Bool) (m : List ℕ) (p : TextPlace) (head s t : List ℕ) : Type 0 where
  pub kept : free? keep s ≡ false → t ≡ s
  pub filled : free? keep s ≡ true → SlotFilled m p head s t

-- so it is set by an operation that adds, and a delete leaves zeros
abbrev pub SlotSet : Bool → List ℕ → Operation → TextPlace → List ℕ → List ℕ → List ℕ → Type 0
SlotSet keep m Add p head s t = SlotPut keep m p head s t
SlotSet keep m Delete p head s t = t ≡ replicate (length s) 0
SlotSet keep m Replace p head s t = SlotPut keep m p head s t

-- place k of slots of w bytes is set so, and the others stand
pub record PlaceSet (keep : Bool) (m : List ℕ) (o : Operation) (p : TextPlace) (head : List ℕ) (w k : ℕ) (s t : List ℕ) : Type 0 where
  pub slot : List ℕ
  pub set : SlotSet keep m o p head (take w (drop (k * w) s)) slot
  pub others : t ≡ take (k * w) s ++ (slot ++ drop w (drop (k * w) s))

-- ---- group and individual slots

-- the bytes are the slots of a table
abbrev pub MembersAre : (w : Members) → List (Option (MemberIn w)) → List ℕ → Type 0
MembersAre w os s = Placed (member_ok w) member_width (member_bytes w) slot_places os s

-- the member that a setting gives
abbrev pub member : (w : Members) → FlagsIn w → AddressIn w → Text → MemberIn w
member w f a us = record { flags = f; address = a; text = us }

-- the slot of an index is set to the member, or emptied, and the others stand; in a delete the member need not be allowed
abbrev pub MemberApplied : (w : Members) → List ℕ → Operation → FlagsIn w → AddressIn w → (index : ℕ) → TextPlace → List ℕ → List ℕ → Type 0
MemberApplied w m o f a i p s t =
    (os : List (Option (MemberIn w))) (us : Text) (next : ℕ) → TextIs m p us next → i < slot_places
    → Present (member_ok w) (slot_after o (member w f a us)) → MembersAre w os s → MembersAre w (set os i (slot_after o (member w f a us))) t

-- an inner step: whichever table it is, where the byte of flags and the address are the member's
abbrev pub MemberSet : List ℕ → Operation → (index flags address : ℕ) → TextPlace → List ℕ → List ℕ → Type 0
MemberSet m o i flags address p s t =
    (w : Members) (f : FlagsIn w) (a : AddressIn w) → ((us : Text) → member_ok w (member w f a us) → flags ≡ flags_of w f) → address ≡ number_of w a
    → MemberApplied w m o f a i p s t

-- group slots
abbrev pub GroupsAre : List (Option GroupMember) → List ℕ → Type 0
GroupsAre = MembersAre OfGroups

abbrev pub group_member : GroupFlags → GroupPlace → Text → GroupMember
group_member f p = member OfGroups f p.address

abbrev pub GroupApplied : List ℕ → Operation → GroupFlags → GroupPlace → List ℕ → List ℕ → Type 0
GroupApplied m o f p = MemberApplied OfGroups m o f p.address p.index p.text

-- individual slots
abbrev pub IndividualsAre : List (Option IndividualMember) → List ℕ → Type 0
IndividualsAre = MembersAre OfIndividuals

abbrev pub individual_member : IndividualFlags → IndividualPlace → Text → IndividualMember
individual_member f p = member OfIndividuals f p.address

abbrev pub IndividualApplied : List ℕ → Operation → IndividualFlags → IndividualPlace → List ℕ → List ℕ → Type 0
IndividualApplied m o f p = MemberApplied OfIndividuals m o f p.address p.index p.text

-- ---- line slots

-- the bytes are the slots of the table
abbrev pub LineSlotsAre : List (Option Line) → List ℕ → Type 0
LineSlotsAre os s = Placed LineOk line_width line_bytes slot_places os s

-- the slot of an index is set to the line of a contact, or emptied, and the others stand
abbrev pub LineSlotApplied : List ℕ → Operation → LineFlags → LinePlace → List ℕ → List ℕ → Type 0
LineSlotApplied m o f p s t =
    (os : List (Option Line)) (e : Contact) → ContactIs m p.contact e → p.index < slot_places
    → Present LineOk (slot_after o (line_of f e)) → LineSlotsAre os s → LineSlotsAre (set os p.index (slot_after o (line_of f e))) t

-- ---- the fixed parts

-- four bytes become the key's
abbrev pub KeyPut : KeyTarget → KeyFlags → List ℕ → List ℕ → Type 0
KeyPut target flags s t = key_address target < 16777216 → length s ≡ 4 → t ≡ key_bytes (record { target = target; flags = flags })

-- three bytes become the system code's
abbrev pub SystemPut : SystemCode → List ℕ → List ℕ → Type 0
SystemPut c s t = c.la < 16 → c.roaming < 4 → length s ≡ 3 → t ≡ system_bytes c

-- eleven bytes become the hash's, whose value stands in the message
abbrev pub HashPut : List ℕ → HashPlace → List ℕ → List ℕ → Type 0
HashPut m p s t =
    (v : List ℕ) → HashSize p.code (length v) → FieldsAt (map (val 8) v) m p.start (p.start + length v) → length s ≡ 11
    → t ≡ hash_bytes (record { code = p.code; value = v })
