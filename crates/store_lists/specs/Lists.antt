-- What applying settings to the list tables answers: group and individual contacts, line contacts, channels. What only inner functions promise stands last.
use Rattle.std.specs.Prelude.{ℕ, ◌+◌, ◌*◌, ◌≤◌, ◌<◌, ◌≡◌, ◌≢◌, Bool, false, List, [], ◌∷◌, ◌++◌, length, take, drop, get_or}
use Rattle.lists.specs.Every.{All}
use Rattle.slots.specs.Slots.{u16, u24, hit}
use Rattle.counted_lists.specs.Counted.{Counted, CountedOf, Tried}
use Rattle.orders.specs.OrderedLists.{OrderedList}
use Rattle.writing.specs.declared.LineFlags.{LineFlags}
use Rattle.writing.specs.declared.Operation.{Operation}
use Rattle.writing.specs.Fields.{each}
use Rattle.writing.specs.Ranges.{text_limits, InAddressed, InChannel, InContact}
use Rattle.writing.specs.Settings.{Text, Addressed, Contact}
use Rattle.writing.specs.Writing.{addressed, contact}
use Rattle.read_fields.specs.declared.entries.AddressedPlace.{AddressedPlace}
use Rattle.read_fields.specs.declared.entries.ContactPlace.{ContactPlace}
use Rattle.settings.specs.declared.settings.Entries.{Entries}
use Rattle.read_fields.specs.Entries.{channel_list, ContactIs}
use Rattle.read_fields.specs.TextsAndNumbers.{TextIs}
use Rattle.settings.specs.Meant.{EntriesAre}
use Rattle.tables.specs.Apply.{keyed_step, drop_channel, channel_step, channels_after, contacts_after, line_of, lines_after}
use Rattle.tables.specs.Layout.{text_bytes, address_at, channel_width, count_size, line_bytes, line_key_at, line_key_size, line_width, member_width}
use Rattle.tables.specs.declared.members.Members.{Members}
use Rattle.tables.specs.declared.members.Members.TheVariants.{OfGroups, OfIndividuals}
use Rattle.tables.specs.MemberKinds.{FlagsIn, AddressIn, MemberIn, number_of}
use Rattle.tables.specs.Members.{member_ok, flags_of, member_bytes}
use Rattle.tables.specs.OrderedLines.{LineList}
use Rattle.tables.specs.Tables.{Line}

-- ---- channels

-- the bytes are the count and the table of these channels, with n places
abbrev pub ChannelTable : ℕ → List ℕ → List ℕ → Type 0
ChannelTable n = CountedOf InChannel channel_width u16 n

-- what applying the channels that stand at a place answers, on a region that was s and becomes t
abbrev pub ChannelsApplied : Operation → List ℕ → Entries → List ℕ → List ℕ → Bool → Type 0
ChannelsApplied o m p s t r =
    (n : ℕ) (cs ns : List ℕ) → ChannelTable n cs s → EntriesAre (λ c. channel_list) m p ns → All InChannel ns → Tried (ChannelTable n) (channels_after n o ns cs) t r

-- ---- line contacts

-- the bytes are the count, the table and the order of these lines, with n places
abbrev pub LineTable : ℕ → List Line → List ℕ → Type 0
LineTable n = LineList n

-- what applying the contacts that stand at a place answers, on a region that was s and becomes t
abbrev pub LinesApplied : Operation → List ℕ → LineFlags → Entries → List ℕ → List ℕ → Bool → Type 0
LinesApplied o m f p s t r =
    f.priority < 4 → (n : ℕ) (ls : List Line) (es : List Contact) → LineTable n ls s → EntriesAre (λ c. each (contact c)) m p es → All (InContact text_limits) es
    → Tried (LineTable n) (lines_after n o f es ls) t r

-- ---- group and individual contacts

-- the bytes are the count and the table of these contacts, with n places
abbrev pub ContactTable : (w : Members) → ℕ → List (MemberIn w) → List ℕ → Type 0
ContactTable w n = CountedOf (member_ok w) member_width (member_bytes w) n

-- the flags that a contact may have
abbrev pub FlagsOk : (w : Members) → FlagsIn w → Type 0
FlagsOk OfGroups f = (f.attribute ≢ 0) × (f.attribute < 4) × (f.priority < 4)
FlagsOk OfIndividuals f = f.priority < 4

-- what applying the contacts of either kind that stand at a place answers, with the byte of their flags, on a region that was s and becomes t
abbrev pub ContactsApplied : Operation → List ℕ → ℕ → Entries → List ℕ → List ℕ → Bool → Type 0
ContactsApplied o m flags p s t r =
    (w : Members) (f : FlagsIn w) (n : ℕ) (xs : List (MemberIn w)) (es : List (Addressed (AddressIn w))) → flags ≡ flags_of w f → FlagsOk w f
    → ContactTable w n xs s → EntriesAre (λ c. each (addressed (number_of w) c)) m p es → All (InAddressed (number_of w) text_limits) es
    → Tried (ContactTable w n) (contacts_after w n o f es xs) t r

-- ---- inner steps: no promise cites these

-- what applying one channel answers
abbrev pub ChannelApplied : Operation → ℕ → List ℕ → List ℕ → Bool → Type 0
ChannelApplied o c s t r = (n : ℕ) (cs : List ℕ) → ChannelTable n cs s → InChannel c → Tried (ChannelTable n) (channel_step n o c cs) t r

-- each channel of the table that the bytes s are has its mark
abbrev pub Marked : List ℕ → List ℕ → Type 0
Marked s marks = (n : ℕ) (cs : List ℕ) → ChannelTable n cs s → All (λ c. c < length marks → get_or marks c 0 ≢ 0) cs

-- the number has its mark, if there is one for it, and no other lost its own
pub record OneMarked (c : ℕ) (marks left : List ℕ) : Type 0 where
  pub here : c < length marks → get_or left c 0 ≢ 0
  pub kept : (a : ℕ) → get_or marks a 0 ≢ 0 → get_or left a 0 ≢ 0

-- what taking a channel out by its mark leaves of a table and of the marks
abbrev pub MarkedDropped : ℕ → List ℕ → List ℕ → List ℕ → List ℕ → Type 0
MarkedDropped c s marks t left =
    (n : ℕ) (cs : List ℕ) → InChannel c → c < length marks → ChannelTable n cs s → All (λ a. get_or marks a 0 ≢ 0) cs
    → ChannelTable n (drop_channel c cs) t × All (λ a. get_or left a 0 ≢ 0) (drop_channel c cs)

-- no contact has the address x, y, z, where the answer is no
abbrev pub AddressLooked : ℕ → ℕ → ℕ → List ℕ → Bool → Type 0
AddressLooked x y z s r = r ≡ false → (n : ℕ) (xs : List (List ℕ)) → Counted member_width n xs s → All (λ e. hit address_at (x ∷ y ∷ z ∷ []) e ≡ false) xs

-- r are the bytes of the line that a contact at a place makes
abbrev pub LineSlot : List ℕ → LineFlags → ContactPlace → List ℕ → Type 0
LineSlot m f p r = (e : Contact) → ContactIs m p e → InContact text_limits e → f.priority < 4 → r ≡ line_bytes (line_of f e)

-- r are a byte of flags, and the address and the text of a place
abbrev pub ContactSlot : List ℕ → ℕ → AddressedPlace → List ℕ → Type 0
ContactSlot m flags p r =
    (us : Text) (next : ℕ) → TextIs m p.text us next → length us ≤ text_limits.short → p.address < 16777216
    → r ≡ flags ∷ u24 p.address ++ text_bytes text_limits.short us

-- what an operation with the slot x answers of a list of slots of w bytes, with n places, which have their key, k bytes, at o
pub record KeyedStepped (Is : ℕ → List (List ℕ) → List ℕ → Type 0) (op : Operation) (w o k : ℕ) (x s t : List ℕ) (r : Bool) : Type 0 where
  pub kept : r ≡ false → t ≡ s
  pub tried : length x ≡ w → o + k ≤ w → (n : ℕ) (xs : List (List ℕ)) → Is n xs s → Tried (Is n) (keyed_step (λ y. hit o (take k (drop o y))) n op x xs) t r

-- the slots of lines, with their order
abbrev pub LineSlots : ℕ → List (List ℕ) → List ℕ → Type 0
LineSlots = OrderedList line_width line_key_at line_key_size

-- what an operation with the slot of a line answers
abbrev pub LineStepped : Operation → List ℕ → List ℕ → List ℕ → Bool → Type 0
LineStepped op = KeyedStepped LineSlots op line_width line_key_at line_key_size

-- r is how many places a region of lines of this size has
abbrev pub LinePlaces : ℕ → ℕ → Type 0
LinePlaces size r = (n : ℕ) → size ≡ n * line_width + count_size + n → r ≡ n
