-- What reading the deeds of one setting answers: each deed in turn, with the places of texts, and the entries that are left.
use Rattle.std.specs.Prelude.{ℕ, ◌+◌, ◌*◌, ◌-◌, ◌≤◌, ◌≡◌, Bool, false, List, [], ◌∷◌, map, length, drop}
use Rattle.lists.specs.Every.{All}
use Rattle.writing.specs.declared.Coding.{Coding}
use Rattle.writing.specs.declared.Coding.TheVariants.{Unicode16}
use Rattle.writing.specs.declared.Kind.{Kind}
use Rattle.writing.specs.declared.Kind.TheVariants as kinds
use Rattle.writing.specs.declared.Operation.{Operation}
use Rattle.writing.specs.declared.Operation.TheVariants.{Add}
use Rattle.writing.specs.Fields.{Field, each}
use Rattle.writing.specs.Ranges.{text_limits, InRange, InNumber, InContact, InAddressed, InStatus}
use Rattle.writing.specs.Settings as S
use Rattle.writing.specs.Settings.{Text, Number, Contact, Addressed, Entry}
use Rattle.writing.specs.Writing.{bit, addressed, contact, quick_text, status_text}
use Rattle.read_fields.specs.Entries.{QuickFrom, channel_list, ContactIs}
use Rattle.read_fields.specs.Places.{FieldsAt}
use Rattle.read_fields.specs.TextsAndNumbers.{NumberIs}
use Rattle.read_fields.specs.declared.numbers.NumberPlace.{NumberPlace}
use Rattle.read_fields.specs.declared.texts.TextPlace.{TextPlace}
use Rattle.settings.specs.declared.settings.Entries.{Entries}
use Rattle.settings.specs.declared.settings.LinePlace.{LinePlace}
use Rattle.settings.specs.declared.settings.Setting.{Setting as Read}
use Rattle.settings.specs.declared.settings.Setting.TheVariants as places
use Rattle.settings.specs.Meant.{TextOf, Meant}
use Rattle.tables.specs.Layout.{digit_bytes}
use Rattle.events.specs.Deeds.{Seen, number_code, nothing, clears, puts, removes, deeds, seen_as, doing}
use Rattle.events.specs.Deeds as D
use Rattle.read_deeds.specs.declared.deeds.Put.{Put}
use Rattle.read_deeds.specs.declared.deeds.Deed.{Deed}
use Rattle.read_deeds.specs.declared.deeds.Deed.TheVariants.{Nothing, Clears, Puts, Removes}
use Rattle.read_deeds.specs.declared.deeds.Left.{Left}
use Rattle.read_deeds.specs.declared.deeds.Turn.{Turn}

-- ---- deeds that were read

-- the text has as many units as the place says, and stands there where it has any
pub record TextSeen (m : List ℕ) (p : TextPlace) (us : Text) : Type 0 where
  pub units : p.units ≡ length us
  pub there : (us ≡ [] → ⊥) → TextOf m p us

-- the entry that was read is this, and its text stands at its place
pub record PutIs (m : List ℕ) (p : Put) (a : Seen) : Type 0 where
  pub key : p.key ≡ a.key
  pub name : p.name ≡ a.name
  pub hidden : p.hidden ≡ a.hidden
  pub text : TextSeen m p.text a.text

-- the deed that was read is this
abbrev pub DeedIs : List ℕ → Deed → D.Deed → Type 0
DeedIs m Nothing nothing = Unit {0}
DeedIs m Nothing (clears j) = ⊥
DeedIs m Nothing (puts j a) = ⊥
DeedIs m Nothing (removes j d) = ⊥
DeedIs m (Clears k) nothing = ⊥
DeedIs m (Clears k) (clears j) = k ≡ j
DeedIs m (Clears k) (puts j a) = ⊥
DeedIs m (Clears k) (removes j d) = ⊥
DeedIs m (Puts k p) nothing = ⊥
DeedIs m (Puts k p) (clears j) = ⊥
DeedIs m (Puts k p) (puts j a) = (k ≡ j) × PutIs m p a
DeedIs m (Puts k p) (removes j d) = ⊥
DeedIs m (Removes k c) nothing = ⊥
DeedIs m (Removes k c) (clears j) = ⊥
DeedIs m (Removes k c) (puts j a) = ⊥
DeedIs m (Removes k c) (removes j d) = (k ≡ j) × (c ≡ d)

-- ---- entries that are left

-- how the entries of a list are written, their range, and what is seen of each
pub record Form : Type 1 where
  pub Of : Type 0
  pub form : Coding → Of → List Field
  pub In : Of → Type 0
  pub seen : Left → Of → Seen

abbrev pub contact_entries : Form
contact_entries = record {
  Of = Addressed ℕ;
  form = addressed (λ a. a);
  In = InAddressed (λ a. a) text_limits;
  seen = λ l e. record { key = e.address; name = e.address; hidden = l.hidden; text = e.text };
}

abbrev pub line_entries : Form
line_entries = record {
  Of = Contact;
  form = contact;
  In = InContact text_limits;
  seen = λ l e. record { key = 2 * number_code e.number + bit l.pabx; name = number_code e.number; hidden = false; text = e.text };
}

abbrev pub quick_entries : Form
quick_entries = record { Of = Entry; form = quick_text; In = QuickFrom text_limits 0; seen = λ l e. seen_as kinds.QuickTexts e }

abbrev pub status_entries : Form
status_entries = record { Of = Entry; form = status_text; In = InStatus text_limits; seen = λ l e. seen_as kinds.StatusTexts e }

-- the deeds of entries of this form that are left
pub record LeftOf (f : Form) (m : List ℕ) (l : Left) (ds : List D.Deed) : Type 0 where
  pub es : List f.Of
  pub end : ℕ
  pub counted : length es ≡ l.count
  pub in_range : All f.In es
  pub stands : FieldsAt (each (f.form l.coding) es) m l.start end
  pub does : ds ≡ map (λ e. doing l.kind l.operation (f.seen l e)) es

-- the deeds of channels that are left: all stand from the start on
pub record ChannelsLeft (m : List ℕ) (l : Left) (ds : List D.Deed) : Type 0 where
  pub ns : List ℕ
  pub end : ℕ
  pub counted : length ns ≡ l.total
  pub passed : l.count ≤ l.total
  pub stands : FieldsAt (channel_list ns) m l.start end
  pub does : ds ≡ map (λ n. doing l.kind l.operation (seen_as kinds.Channels n)) (drop (l.total - l.count) ns)

-- by kind; a setting of another kind has no entries that are left
abbrev pub LeftBy : Kind → List ℕ → Left → List D.Deed → Type 0
LeftBy kinds.GroupContacts m l ds = LeftOf contact_entries m l ds
LeftBy kinds.IndividualContacts m l ds = LeftOf contact_entries m l ds
LeftBy kinds.Lines m l ds = LeftOf line_entries m l ds
LeftBy kinds.Key m l ds = (l.count ≡ 0) × (ds ≡ [])
LeftBy kinds.QuickTexts m l ds = LeftOf quick_entries m l ds
LeftBy kinds.Home m l ds = (l.count ≡ 0) × (ds ≡ [])
LeftBy kinds.Channels m l ds = ChannelsLeft m l ds
LeftBy kinds.System m l ds = (l.count ≡ 0) × (ds ≡ [])
LeftBy kinds.StatusTexts m l ds = LeftOf status_entries m l ds
LeftBy kinds.Group m l ds = (l.count ≡ 0) × (ds ≡ [])
LeftBy kinds.Individual m l ds = (l.count ≡ 0) × (ds ≡ [])
LeftBy kinds.LineSlot m l ds = (l.count ≡ 0) × (ds ≡ [])
LeftBy kinds.Last m l ds = (l.count ≡ 0) × (ds ≡ [])

-- these deeds are those of the entries that are left
abbrev pub LeftIs : List ℕ → Left → List D.Deed → Type 0
LeftIs m l ds = LeftBy l.kind m l ds

-- no entry is left
abbrev pub none_left : Left
none_left = record { kind = kinds.Last; operation = Add; hidden = false; pabx = false; coding = Unicode16; start = 0; total = 0; count = 0 }

-- ---- what reading answers

-- a turn comes to these deeds: the first was read, and the others are left
pub record TurnIs (m : List ℕ) (r : Turn) (ds : List D.Deed) : Type 0 where
  pub first : D.Deed
  pub rest : List D.Deed
  pub parts : ds ≡ first ∷ rest
  pub read : DeedIs m r.deed first
  pub left : LeftIs m r.left rest

-- what beginning a setting that was read answers
abbrev pub Begins : List ℕ → Read → Turn → Type 0
Begins m x r = (s : S.Setting) (n : ℕ) → Meant m x s → InRange text_limits n s → TurnIs m r (deeds s)

-- what reading the next of the entries that are left answers
abbrev pub NextEntry : List ℕ → Left → Turn → Type 0
NextEntry m l r = (d : D.Deed) (ds : List D.Deed) → LeftIs m l (d ∷ ds) → DeedIs m r.deed d × LeftIs m r.left ds

-- ---- inner steps: no promise cites these

-- what an operation does with an entry that was read
abbrev pub DoingIs : Kind → Operation → Put → Deed → Type 0
DoingIs k o p r = (m : List ℕ) (a : Seen) → PutIs m p a → DeedIs m r (doing k o a)

abbrev pub OpeningIs : Kind → Operation → Deed → Type 0
OpeningIs k o r = (m : List ℕ) → DeedIs m r (D.opening k o)

-- the number of digits that are kept so; of any bytes it leaves room for one bit
abbrev pub KeptCode : List ℕ → ℕ → Type 0
KeptCode kept r = (r ≤ 2000000000000000000) × ((ds : Number) → InNumber ds → kept ≡ digit_bytes ds → r ≡ number_code ds)

-- that of the number that stands at a place; it leaves room for one bit
abbrev pub NumberCode : List ℕ → NumberPlace → ℕ → Type 0
NumberCode m p r = (ds : Number) (next : ℕ) → InNumber ds → NumberIs m p ds next → (r ≡ number_code ds) × (r ≤ 2000000000000000000)

-- with its IDtype
abbrev pub KeyCode : ℕ → Bool → ℕ → Type 0
KeyCode c b r = c ≤ 2000000000000000000 → r ≡ 2 * c + bit b

-- the entries of a list are left, after its opening
pub record ListBegun (k : Kind) (o : Operation) (hidden pabx : Bool) (p : Entries) (r : Turn) : Type 0 where
  pub deed : OpeningIs k o r.deed
  pub left : r.left ≡ record { kind = k; operation = o; hidden = hidden; pabx = pabx; coding = p.coding; start = p.start; total = p.count; count = p.count }

-- none is left
pub record SingleBegun (d : Deed) (r : Turn) : Type 0 where
  pub deed : r.deed ≡ d
  pub left : r.left ≡ none_left

-- a slot's deed is done, and no entry is left: a group's or an individual's, and a line's
abbrev pub MemberBegun : Kind → Operation → (index address : ℕ) → Bool → TextPlace → Turn → Type 0
MemberBegun k o i a h p r =
    (m : List ℕ) (us : Text) → TextOf m p us → DeedIs m r.deed (doing k o (record { key = i; name = a; hidden = h; text = us })) × (r.left ≡ none_left)

abbrev pub LineBegun : List ℕ → Operation → LinePlace → Turn → Type 0
LineBegun m o p r =
    (e : Contact) → InNumber e.number → ContactIs m p.contact e
    → DeedIs m r.deed (doing kinds.LineSlot o (record { key = p.index; name = number_code e.number; hidden = false; text = e.text })) × (r.left ≡ none_left)

-- the setting is a slot's, or one of which nothing is seen
abbrev pub Unlisted : Read → Type 0
Unlisted (places.GroupContacts o f p) = ⊥
Unlisted (places.IndividualContacts o f p) = ⊥
Unlisted (places.Lines o f p) = ⊥
Unlisted (places.Key t f) = Unit {0}
Unlisted (places.QuickTexts o p) = ⊥
Unlisted (places.Home h) = Unit {0}
Unlisted (places.Channels o p) = ⊥
Unlisted (places.System c) = Unit {0}
Unlisted (places.StatusTexts o p) = ⊥
Unlisted (places.Group o f p) = Unit {0}
Unlisted (places.Individual o f p) = Unit {0}
Unlisted (places.LineSlot o f p) = Unit {0}
Unlisted (places.Last f p) = Unit {0}

abbrev pub SlotBegins : List ℕ → Read → Turn → Type 0
SlotBegins m x r = Unlisted x → Begins m x r

-- an entry was passed: what is done with it, and those left from a place on
pub record Passed (l : Left) (p : Put) (next : ℕ) (r : Turn) : Type 0 where
  pub deed : (l.count ≡ 0 → ⊥) → DoingIs l.kind l.operation p r.deed
  pub left : (l.count ≡ 0 → ⊥) → r.left ≡ record { kind = l.kind; operation = l.operation; hidden = l.hidden; pabx = l.pabx; coding = l.coding; start = next; total = l.total; count = l.count - 1 }

-- the next entry of a form was read
abbrev pub NextOf : Form → List ℕ → Left → Turn → Type 0
NextOf f m l r = (d : D.Deed) (ds : List D.Deed) → LeftOf f m l (d ∷ ds) → DeedIs m r.deed d × (r.left.kind ≡ l.kind) × LeftOf f m r.left ds

-- the next channel
abbrev pub NextChannel : List ℕ → Left → Turn → Type 0
NextChannel m l r = (d : D.Deed) (ds : List D.Deed) → ChannelsLeft m l (d ∷ ds) → DeedIs m r.deed d × (r.left.kind ≡ l.kind) × ChannelsLeft m r.left ds
