-- What a setting that was read means, and what reading its fields answers.
use Rattle.std.specs.Prelude.{ℕ, ◌+◌, ◌≡◌, List, map, length, Option, Some, None}
use Rattle.plan.specs.declared.numbers.GroupAddress.{GroupAddress}
use Rattle.plan.specs.declared.numbers.IndividualAddress.{IndividualAddress}
use Rattle.writing.specs.declared.Coding.{Coding}
use Rattle.writing.specs.declared.Kind.{Kind}
use Rattle.writing.specs.Fields.{Field, val, each}
use Rattle.writing.specs.Ranges.{text_limits, HashSize, InRange}
use Rattle.writing.specs.Settings.{Setting, Contact, Addressed, Entry, group_contacts, individual_contacts, lines, key, quick_texts, home, channels, system, status_texts, group, individual, line_slot, last, kind}
use Rattle.writing.specs.Writing.{addressed, contact, quick_text, status_text, body}
use Rattle.read_fields.specs.Entries.{channel_list, ContactIs}
use Rattle.read_fields.specs.TextsAndNumbers.{TextIs}
use Rattle.read_fields.specs.Places.{FieldsAt}
use Rattle.read_fields.specs.declared.texts.TextPlace.{TextPlace}
use Rattle.settings.specs.declared.settings.Entries.{Entries}
use Rattle.settings.specs.declared.settings.Setting.{Setting as Read}
use Rattle.settings.specs.declared.settings.Setting.TheVariants.{GroupContacts, IndividualContacts, Lines, Key, QuickTexts, Home, Channels, System, StatusTexts, Group, Individual, LineSlot, Last}

-- these entries stand at this place, in the form of a list under the coding that the place says
pub record EntriesAre {A : Type 0} (form : Coding → List A → List Field) (m : List ℕ) (p : Entries) (es : List A) : Type 0 where
  pub counted : length es ≡ p.count
  pub stands : FieldsAt (form p.coding es) m p.start p.next

-- a text, and where it ends
abbrev pub TextOf : List ℕ → TextPlace → List ℕ → Type 0
TextOf m p us = (next : ℕ) × TextIs m p us next

-- what a setting that was read means: "texts stay as places in the message"
abbrev pub Meant : List ℕ → Read → Setting → Type 0
Meant m (GroupContacts o f p) s = (es : List (Addressed GroupAddress)) × (s ≡ group_contacts o f es) × EntriesAre (λ c. each (addressed (λ a. a.0) c)) m p es
Meant m (IndividualContacts o f p) s = (es : List (Addressed IndividualAddress)) × (s ≡ individual_contacts o f es) × EntriesAre (λ c. each (addressed (λ a. a.0) c)) m p es
Meant m (Lines o f p) s = (es : List Contact) × (s ≡ lines o f es) × EntriesAre (λ c. each (contact c)) m p es
Meant m (Key t f) s = s ≡ key t f
Meant m (QuickTexts o p) s = (es : List Entry) × (s ≡ quick_texts o es) × EntriesAre (λ c. each (quick_text c)) m p es
Meant m (Home h) s = s ≡ home h
Meant m (Channels o p) s = (es : List ℕ) × (s ≡ channels o es) × EntriesAre (λ c. channel_list) m p es
Meant m (System x) s = s ≡ system x
Meant m (StatusTexts o p) s = (es : List Entry) × (s ≡ status_texts o es) × EntriesAre (λ c. each (status_text c)) m p es
Meant m (Group o f p) s = (us : List ℕ) × (s ≡ group o f (record { index = p.index; address = p.address; text = us })) × TextOf m p.text us
Meant m (Individual o f p) s = (us : List ℕ) × (s ≡ individual o f (record { index = p.index; address = p.address; text = us })) × TextOf m p.text us
Meant m (LineSlot o f p) s =
    (e : Contact) × (s ≡ line_slot o f (record { index = p.index; address = e.number; text = e.text })) × ContactIs m p.contact e
Meant m (Last f p) s = (v : List ℕ) × (s ≡ last f (record { code = p.code; value = v })) × FieldsAt (map (val 8) v) m p.start (p.start + length v) × HashSize p.code (length v)

-- the fields after DataLength of a setting in range of this kind stand at p under this coding, or none do
abbrev pub BodyAt : Coding → Kind → ℕ → List ℕ → ℕ → Option (Read × ℕ) → Type 0
BodyAt c k left m p (Some (r, next)) = (s : Setting) × (kind s ≡ k) × Meant m r s × InRange text_limits left s × FieldsAt (body c s) m p next
BodyAt c k left m p None = (s : Setting) (next : ℕ) → kind s ≡ k → InRange text_limits left s → FieldsAt (body c s) m p next → ⊥
