-- What the checks of a store's bytes decide, region by region and in both forms: inner steps, no promise cites these.
use Rattle.std.specs.Prelude.{ℕ, ◌+◌, ◌*◌, ◌%◌, ◌≤◌, ◌≡◌, ◌↔◌, Bool, true, false, not, cond, ◌&&◌, List, [], ◌∷◌, ◌++◌, map, eqb, leb, length, get_or, replicate}
use denote.Ref.{Bor}
use Rattle.lists.specs.Every.{All}
use Rattle.slots.specs.Slots.{EntryOf, SlotOf, PlacesOf, ListOf, flat, pad, u16, u24, zeros?}
use Rattle.orders.specs.Orders.{order}
use Rattle.orders.specs.OrderParts.{order_bytes}
use Rattle.writing.specs.Ranges.{InChannel, text_limits}
use Rattle.writing.specs.Settings.{Text}
use Rattle.store_check.specs.declared.checks_tables.Table.{Table}
use Rattle.store_check.specs.declared.checks_tables.Table.TheVariants.{QuickTexts, StatusTexts, Members as Of, Channels, Lines}
use Rattle.store_check.specs.declared.forms.Form.{Form}
use Rattle.store_check.specs.declared.forms.Form.TheVariants.{Placed, Shared}
use Rattle.tables.specs.declared.limits.Limits.{Limits}
use Rattle.tables.specs.declared.members.Members.{Members}
use Rattle.tables.specs.Order.{sorting}
use Rattle.tables.specs.Limits.{placed}
use Rattle.tables.specs.Tables.{Line, LineKey, Key, line_key, Tables}
use Rattle.tables.specs.Allowed.{Allowed, TextOk, QuickOk, LineOk, TargetOk, ListOk, KeyedOk}
use Rattle.tables.specs.MemberKinds.{FlagsIn, AddressIn, MemberIn, number_of}
use Rattle.tables.specs.Members.{member_ok, flags_of, member_bytes}
use Rattle.tables.specs.Layout.{counted, text_bytes, line_bytes, channel_width, placed_layout}
use Rattle.tables.specs.Heads.{Head, HeadOk, HeadOfLine, QuickHeadOk, LineHeadOk, line_halves, member_halves, line_head, status_own, member_own, line_own}

-- ---- two entries, one after the other

-- both are as they have to be
abbrev pub Both : {A B : Type 0} → (A → Type 0) → (B → Type 0) → A × B → Type 0
Both P Q x = P x.0 × Q x.1

-- the bytes of the first, then those of the second
abbrev pub joined : {A B : Type 0} → (A → List ℕ) → (B → List ℕ) → A × B → List ℕ
joined f g x = f x.0 ++ g x.1

-- ---- units of two bytes

-- one is not 0
abbrev pub shown? : ℕ → ℕ → Bool
shown? x y = not (zeros? (x ∷ y ∷ []))

-- none of them is 0; a last byte alone is no unit
abbrev pub units? : List ℕ → Bool
units? [] = true
units? (x ∷ []) = true
units? (x ∷ y ∷ s) = shown? x y && units? s

-- ---- digits, each kept as one more than itself

-- a byte before another: it is a digit's, or 0 and so is that
abbrev pub digit_then? : ℕ → ℕ → Bool
digit_then? x y = cond (eqb x 0) (eqb y 0) (leb x 10)

-- every byte but the last is so
abbrev pub digits_fall? : List ℕ → Bool
digits_fall? [] = true
digits_fall? (x ∷ []) = true
digits_fall? (x ∷ y ∷ s) = digit_then? x y && digits_fall? (y ∷ s)

-- ---- what stands for a text: the text, or how many units it has

abbrev pub TextIn : Form → Type 0
TextIn Placed = Text
TextIn Shared = ℕ

-- at most n units
abbrev pub TextIs : (f : Form) → ℕ → TextIn f → Type 0
TextIs Placed n = TextOk n
TextIs Shared n = λ u. u ≤ n

abbrev pub text_in : (f : Form) → ℕ → TextIn f → List ℕ
text_in Placed n = text_bytes n
text_in Shared n = λ u. u ∷ []

abbrev pub text_width : Form → ℕ → ℕ
text_width Placed n = n * 2
text_width Shared n = 1

-- the most units of a quick text, and of any other
abbrev pub quick : ℕ
quick = text_limits.quick

abbrev pub short : ℕ
short = text_limits.short

-- ---- entries that have one: as they are, or their heads

-- a quick text is not empty
abbrev pub QuickIs : (f : Form) → TextIn f → Type 0
QuickIs Placed = QuickOk
QuickIs Shared = QuickHeadOk

abbrev pub NamedIn : Form → Members → Type 0
NamedIn Placed w = MemberIn w
NamedIn Shared w = Head (FlagsIn w) (AddressIn w)

abbrev pub NamedIs : (f : Form) (w : Members) → NamedIn f w → Type 0
NamedIs Placed w = member_ok w
NamedIs Shared w = HeadOk member_halves (member_ok w)

abbrev pub named_in : (f : Form) (w : Members) → NamedIn f w → List ℕ
named_in Placed w = member_bytes w
named_in Shared w = λ h. flags_of w h.flags ∷ u24 (number_of w h.name) ++ (h.units ∷ [])

-- the address that a list has once
abbrev pub named_key : (f : Form) (w : Members) → NamedIn f w → ℕ
named_key Placed w x = number_of w x.address
named_key Shared w h = number_of w h.name

abbrev pub LineIn : Form → Type 0
LineIn Placed = Line
LineIn Shared = HeadOfLine

-- the line, without its text where that stands elsewhere
abbrev pub bare_line : (f : Form) → LineIn f → Line
bare_line Placed l = l
bare_line Shared h = line_halves.join h []

abbrev pub LineIs : (f : Form) → LineIn f → Type 0
LineIs Placed = LineOk
LineIs Shared = LineHeadOk

abbrev pub line_in : (f : Form) → LineIn f → List ℕ
line_in Placed = line_bytes
line_in Shared = line_head

abbrev pub line_key_in : (f : Form) → LineIn f → LineKey
line_key_in f l = line_key (bare_line f l)

-- ---- the tables that are made of slots

-- what an entry is
abbrev pub EntryIn : Form → Table → Type 0
EntryIn f QuickTexts = TextIn f
EntryIn f StatusTexts = TextIn f
EntryIn f (Of w) = NamedIn f w
EntryIn f Channels = ℕ
EntryIn f Lines = LineIn f

-- which entries the rules allow
abbrev pub OkIn : (f : Form) (t : Table) → EntryIn f t → Type 0
OkIn f QuickTexts = QuickIs f
OkIn f StatusTexts = TextIs f short
OkIn f (Of w) = NamedIs f w
OkIn f Channels = InChannel
OkIn f Lines = LineIs f

-- an entry's bytes; 1 says that a status text is there
abbrev pub bytes_in : (f : Form) (t : Table) → EntryIn f t → List ℕ
bytes_in f QuickTexts = text_in f quick
bytes_in f StatusTexts = λ u. 1 ∷ text_in f short u
bytes_in f (Of w) = named_in f w
bytes_in f Channels = u16
bytes_in f Lines = line_in f

-- how many they are
abbrev pub width_in : Form → Table → ℕ
width_in f QuickTexts = text_width f quick
width_in f StatusTexts = status_own + text_width f short
width_in f (Of w) = member_own + text_width f short
width_in f Channels = channel_width
width_in f Lines = line_own + text_width f short

-- the bytes are an entry's
abbrev pub EntryIs : Form → Table → List ℕ → Type 0
EntryIs f t s = EntryOf (OkIn f t) (bytes_in f t) s

-- the bytes are a slot's: an entry's, or an empty one
abbrev pub SlotIs : Form → Table → List ℕ → Type 0
SlotIs f t s = SlotOf (OkIn f t) (width_in f t) (bytes_in f t) s

-- a test of a slot's bytes tells whether they are one
abbrev pub Tells : (Bor (List ℕ) → Bool → Type 0) → Form → Table → Type 0
Tells told f t = (x : Bor (List ℕ)) (b : Bool) → length x.now ≡ width_in f t → told x b → (b ≡ true) ↔ SlotIs f t x.now

-- the bytes are a table of n places
abbrev pub PlacesIn : Form → Table → ℕ → List ℕ → Type 0
PlacesIn f t n s = PlacesOf (OkIn f t) (width_in f t) (bytes_in f t) n s

-- the bytes are a list table of n places
abbrev pub ListIn : Form → Table → ℕ → List ℕ → Type 0
ListIn f t n s = ListOf (OkIn f t) (width_in f t) (bytes_in f t) n s

-- the bytes are a list table with its count and n places
abbrev pub CountedIn : Form → Table → ℕ → List ℕ → Type 0
CountedIn f t n s = EntryOf (ListOk (OkIn f t) n) (counted (width_in f t) (bytes_in f t) n) s

-- ---- keys in slots, whatever the entries

-- a slot of w bytes that is not empty
abbrev pub Shown : ℕ → List ℕ → Type 0
Shown w x = (length x ≡ w) × (zeros? x ≡ false)

-- s is n slots of w bytes: first these, of which none is empty, and then empty ones
pub record Filled (w n : ℕ) (xs : List (List ℕ)) (s : List ℕ) : Type 0 where
  pub few : length xs ≤ n
  pub each : All (Shown w) xs
  pub bytes : s ≡ flat (pad (replicate w 0) n xs)

-- a number below 1024 that equal keys of three bytes or more have in common
abbrev pub mark_of : List ℕ → ℕ
mark_of key = (get_or key 0 0 * 326 + get_or key 1 0 * 805 + get_or key 2 0) % 1024

-- ---- the regions of a store

-- the key calls where it may
abbrev pub KeyOk : Key → Type 0
KeyOk k = TargetOk k.target

-- at most n contacts, each with an address of its own
abbrev pub ContactsOk : (f : Form) (w : Members) → ℕ → List (NamedIn f w) → Type 0
ContactsOk f w n xs = KeyedOk (NamedIs f w) (named_key f w) n xs

-- the bytes are the count of contacts, and they in n places
abbrev pub ContactsOf : Form → Members → ℕ → List ℕ → Type 0
ContactsOf f w n s = EntryOf (ContactsOk f w n) (counted (width_in f (Of w)) (named_in f w) n) s

-- the bytes are the count of channels, and they in n places
abbrev pub ChannelsOf : ℕ → List ℕ → Type 0
ChannelsOf n s = EntryOf (ListOk InChannel n) (counted channel_width u16 n) s

-- at most n lines, each with a key of its own
abbrev pub LinesIs : (f : Form) → ℕ → List (LineIn f) → Type 0
LinesIs f n ls = KeyedOk (LineIs f) (line_key_in f) n ls

-- the positions of lines, in the order of their keys
abbrev pub order_in : (f : Form) → List (LineIn f) → List ℕ
order_in f ls = order (map (λ l. sorting (line_key_in f l)) ls)

-- the list table of lines, then their order
abbrev pub lines_in : (f : Form) → ℕ → List (LineIn f) → List ℕ
lines_in f n ls = counted (width_in f Lines) (line_in f) n ls ++ order_bytes n (order_in f ls)

-- the bytes are the count of lines, they in n places, and their order
abbrev pub LinesOf : Form → ℕ → List ℕ → Type 0
LinesOf f n s = EntryOf (LinesIs f n) (lines_in f n) s

-- the bytes are those of tables whose texts have places of their own
pub record IsPlaced (lim : Limits) (bytes : List ℕ) : Type 0 where
  pub tables : Tables
  pub allowed : Allowed (placed lim) tables
  pub bytes_are : bytes ≡ placed_layout lim tables
