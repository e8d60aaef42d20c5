-- What reading entries answers: one entry in range with its place, as many as were counted, or that they do not stand there.
use Rattle.std.specs.Prelude.{ℕ, ◌≤◌, ◌≡◌, List, ◌++◌, map, Bool, true, false, length, Option, Some, None}
use Rattle.lists.specs.Every.{All}
use Rattle.writing.specs.Fields.{Field, val, each}
use Rattle.writing.specs.declared.Coding.{Coding}
use Rattle.writing.specs.Settings.{Contact, Addressed, Entry}
use Rattle.writing.specs.Writing.{addressed, contact, quick_text, status_text, fill}
use Rattle.writing.specs.Ranges.{TextLimits, InContact, InAddressed, InStatus, InChannel}
use Rattle.read_fields.specs.Places.{FieldsAt}
use Rattle.read_fields.specs.TextsAndNumbers.{TextIs, NumberIs}
use Rattle.read_fields.specs.declared.entries.ContactPlace.{ContactPlace}
use Rattle.read_fields.specs.declared.entries.AddressedPlace.{AddressedPlace}
use Rattle.read_fields.specs.declared.entries.EntryPlace.{EntryPlace}
use Rattle.read_fields.specs.declared.entries.Listed.{Listed}
use Rattle.read_fields.specs.declared.entries.Listed.TheVariants.{Contacts, Addressed as WithAddress, QuickTexts, StatusTexts}

-- ---- one entry

-- the contact's number and text stand at these places
pub record ContactIs (m : List ℕ) (p : ContactPlace) (e : Contact) : Type 0 where
  pub middle : ℕ
  pub end : ℕ
  pub number : NumberIs m p.number e.number middle
  pub text : TextIs m p.text e.text end

-- the contact has this address, and its text stands at this place; addresses of both kinds are read by their number
pub record AddressedIs (m : List ℕ) (p : AddressedPlace) (e : Addressed ℕ) : Type 0 where
  pub address : e.address ≡ p.address
  pub end : ℕ
  pub text : TextIs m p.text e.text end

-- the entry has this index, and its text stands at this place
pub record EntryIs (m : List ℕ) (p : EntryPlace) (e : Entry) : Type 0 where
  pub index : e.index ≡ p.index
  pub end : ℕ
  pub text : TextIs m p.text e.text end

-- a contact in range stands at `at`, or none does
abbrev pub ContactAt : Coding → TextLimits → List ℕ → ℕ → Option (ContactPlace × ℕ) → Type 0
ContactAt c k m at (Some (p, next)) = (e : Contact) × InContact k e × ContactIs m p e × FieldsAt (contact c e) m at next
ContactAt c k m at None = (e : Contact) (next : ℕ) → InContact k e → FieldsAt (contact c e) m at next → ⊥

-- a contact whose address is in range stands at `at`, or none does
abbrev pub AddressedAt : Coding → TextLimits → List ℕ → ℕ → Option (AddressedPlace × ℕ) → Type 0
AddressedAt c k m at (Some (p, next)) = (e : Addressed ℕ) × InAddressed (λ a. a) k e × AddressedIs m p e × FieldsAt (addressed (λ a. a) c e) m at next
AddressedAt c k m at None = (e : Addressed ℕ) (next : ℕ) → InAddressed (λ a. a) k e → FieldsAt (addressed (λ a. a) c e) m at next → ⊥

-- an entry of this form and range stands at `at`, or none does
abbrev pub EntryAt : (Entry → List Field) → (Entry → Type 0) → List ℕ → ℕ → Option (EntryPlace × ℕ) → Type 0
EntryAt form In m at (Some (p, next)) = (e : Entry) × In e × EntryIs m p e × FieldsAt (form e) m at next
EntryAt form In m at None = (e : Entry) (next : ℕ) → In e → FieldsAt (form e) m at next → ⊥

-- a quick text of at least so many units: 1, or 0 in a delete
abbrev pub QuickFrom : TextLimits → ℕ → Entry → Type 0
QuickFrom k least e = (least ≤ length e.text) × (length e.text ≤ k.quick)

abbrev pub QuickAt : Coding → TextLimits → ℕ → List ℕ → ℕ → Option (EntryPlace × ℕ) → Type 0
QuickAt c k least = EntryAt (quick_text c) (QuickFrom k least)

abbrev pub StatusAt : Coding → TextLimits → List ℕ → ℕ → Option (EntryPlace × ℕ) → Type 0
StatusAt c k = EntryAt (status_text c) (InStatus k)

-- ---- as many as were counted

-- so many entries stand from `at` up to `next` in the form of a list, all in range
pub record Stand {A : Type 0} (form : List A → List Field) (In : A → Type 0) (m : List ℕ) (at count next : ℕ) (es : List A) : Type 0 where
  pub counted : length es ≡ count
  pub in_range : All In es
  pub stands : FieldsAt (form es) m at next

-- they stand there, or none do
abbrev pub WalkAt : {A : Type 0} → (List A → List Field) → (A → Type 0) → List ℕ → ℕ → ℕ → Option ℕ → Type 0
WalkAt {A} form In m at count (Some next) = (es : List A) × Stand form In m at count next es
WalkAt {A} form In m at count None = (es : List A) (next : ℕ) → Stand form In m at count next es → ⊥

-- the entries of a list, how they are written, and their range
abbrev pub EntryOf : Listed → Type 0
EntryOf Contacts = Contact
EntryOf WithAddress = Addressed ℕ
EntryOf (QuickTexts least) = Entry
EntryOf StatusTexts = Entry

abbrev pub form_of : (l : Listed) → Coding → EntryOf l → List Field
form_of Contacts c = contact c
form_of WithAddress c = addressed (λ a. a) c
form_of (QuickTexts least) c = quick_text c
form_of StatusTexts c = status_text c

abbrev pub range_of : (l : Listed) → TextLimits → EntryOf l → Type 0
range_of Contacts k = InContact k
range_of WithAddress k = InAddressed (λ a. a) k
range_of (QuickTexts least) k = QuickFrom k least
range_of StatusTexts k = InStatus k

abbrev pub EntriesAt : Listed → Coding → TextLimits → List ℕ → ℕ → ℕ → Option ℕ → Type 0
EntriesAt l c k = WalkAt (each (form_of l c)) (range_of l k)

-- one in range stands at `at`, up to a place, or none does
abbrev pub PassAt : {A : Type 0} → (A → List Field) → (A → Type 0) → List ℕ → ℕ → Option ℕ → Type 0
PassAt {A} form In m at (Some next) = (a : A) × In a × FieldsAt (form a) m at next
PassAt {A} form In m at None = (a : A) (next : ℕ) → In a → FieldsAt (form a) m at next → ⊥

-- "each 12 bits; 4 bits 1111 if Count is odd"
abbrev pub channel_list : List ℕ → List Field
channel_list es = map (val 12) es ++ fill (length es)

abbrev pub ChannelsAt : List ℕ → ℕ → ℕ → Option ℕ → Type 0
ChannelsAt = WalkAt channel_list InChannel

-- whether a number is outside the channels
abbrev pub OutOfRange : ℕ → Bool → Type 0
OutOfRange n true = InChannel n → ⊥
OutOfRange n false = InChannel n
