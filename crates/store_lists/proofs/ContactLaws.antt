-- Laws of the tables of group and of individual contacts: a contact's slot, and what their loop is told of. Assumes nothing.
use Rattle.std.specs.Prelude.{Option as Maybe, Some, None}
use Rattle.lists.proofs.Kit.{◌≡◌, refl, sym, ap, ap₂, ◌∙◌, subst, subst⁻¹, Bool, List, ◌∷◌, ◌++◌, ℕ, ◌<◌, arith, length, replicate}
use Rattle.slots.specs.Slots.{u24}
use Rattle.counted_lists.specs.Counted.{Counted}
use Rattle.counted_lists.proofs.CountLaws.{counted_none}
use Rattle.writing.specs.declared.Coding.{Coding}
use Rattle.writing.specs.declared.Operation.{Operation}
use Rattle.writing.specs.Fields.{bits_of}
use Rattle.writing.specs.Ranges.{text_limits, InAddressed}
use Rattle.writing.specs.Settings.{Text, Addressed}
use Rattle.writing.specs.Writing.{address, addressed, text}
use Rattle.writing.proofs.CanonicalLaws.{shows_fits}
use Rattle.writing.proofs.Unique.{address_ends, addressed_ends}
use Rattle.writing.proofs.Whole.{addressed_whole}
use Rattle.read_fields.specs.declared.entries.AddressedPlace.{AddressedPlace}
use Rattle.settings.specs.declared.settings.Entries.{Entries}
use Rattle.read_fields.specs.Entries.{AddressedAt}
use Rattle.read_fields.specs.Places.{FieldsAt}
use Rattle.tables.specs.Allowed.{AddressOk, TextOk}
use Rattle.tables.specs.Apply.{start_from, contact_of, has_address}
use Rattle.tables.specs.Changing.{SlotFilled}
use Rattle.tables.specs.Layout.{text_bytes, address_at, address_size, member_width}
use Rattle.tables.specs.declared.members.Members.{Members}
use Rattle.tables.specs.declared.members.Members.TheVariants.{OfGroups, OfIndividuals}
use Rattle.tables.specs.MemberKinds.{FlagsIn, AddressIn, MemberIn, number_of}
use Rattle.tables.specs.Members.{member_ok, flags_of, member_bytes}
use Rattle.tables.proofs.EntryCodes.{address_of, member_keyed, addresses_same}
use Rattle.tables.proofs.TextLaws.{text_units}
use Rattle.store_lists.specs.Lists.{FlagsOk, ContactSlot, ContactsApplied}
use Rattle.store_lists.proofs.KeyedLaws.{ByKey, Next, KeyedDone, keyed_applied}

-- head and text make the slot
pub slot_made : (m : List ℕ) (flags : ℕ) (p : AddressedPlace) (h r : List ℕ) → length h ≡ 4 → (p.address < 16777216 → h ≡ flags ∷ u24 p.address)
    → SlotFilled m p.text h (replicate 36 0) r → ContactSlot m flags p r
slot_made m flags p h r four head fill us next is short low =
    fill 16 us next is short (omega arith) ∙ ap (λ (l : List ℕ). l ++ text_bytes 16 us) (head low)

-- ---- by kind

-- an address of a kind is its number
one_number : (w : Members) (a b : AddressIn w) → number_of w a ≡ number_of w b → a ≡ b
one_number OfGroups a b e = λ i. record { 0 = e i }
one_number OfIndividuals a b e = λ i. record { 0 = e i }

-- and every number is that of one
of_number : (w : Members) (n : ℕ) → (a : AddressIn w) × (number_of w a ≡ n)
of_number OfGroups n = (record { 0 = n }, refl)
of_number OfIndividuals n = (record { 0 = n }, refl)

-- what is allowed, and its bytes
allowed_made : (w : Members) (f : FlagsIn w) (a : AddressIn w) (us : Text) → FlagsOk w f → AddressOk (number_of w a) → TextOk text_limits.short us
    → member_ok w (record { flags = f; address = a; text = us })
allowed_made OfGroups f a us (some_group, low, priority) range ok = record { attribute = (some_group, low); priority = priority; address = range; text = ok }
allowed_made OfIndividuals f a us priority range ok = record { priority = priority; address = range; text = ok }

bytes_made : (w : Members) (x : MemberIn w) → flags_of w x.flags ∷ u24 (number_of w x.address) ++ text_bytes text_limits.short x.text ≡ member_bytes w x
bytes_made OfGroups x = refl
bytes_made OfIndividuals x = refl

-- contacts under a coding make members with these flags, which are kept by their address
pub by_address : (w : Members) → FlagsIn w → Coding → ByKey (Addressed (AddressIn w)) (MemberIn w) (Counted member_width) member_width address_at address_size
by_address w f c = record {
  cleared = counted_none member_width;
  form = addressed (number_of w) c;
  ends = addressed_ends (number_of w) (address_ends (number_of w) (one_number w)) c;
  whole = addressed_whole (number_of w) c;
  In = InAddressed (number_of w) text_limits;
  made = contact_of f;
  Ok = member_ok w;
  bytes = member_bytes w;
  key = address_of w;
  keyed = record { inside = (member_keyed w).inside; long = (member_keyed w).long; key_long = (member_keyed w).key_long; stands = (member_keyed w).stands };
  same = λ x. has_address w x.address;
  decides = λ x y p q. addresses_same w x y;
}

-- ---- contacts that are read by the number of their address

module _ (w : Members) (f : FlagsIn w) (c : Coding) (m : List ℕ) (at : ℕ) {r : Maybe (AddressedPlace × ℕ)} (read : AddressedAt c text_limits m at r) where
  -- none stands there
  pub no_contact : r ≡ None → (e : Addressed (AddressIn w)) (q : ℕ) → (by_address w f c).In e → FieldsAt ((by_address w f c).form e) m at q → ⊥
  unfolding by_address
  no_contact z e q i x = subst (AddressedAt c text_limits m at) z read (record { address = number_of w e.address; text = e.text }) q i x

  -- one does, and x is its slot
  pub next_contact : (p : AddressedPlace) (q : ℕ) → r ≡ Some (p, q) → (flags : ℕ) (x : List ℕ) → ContactSlot m flags p x → flags ≡ flags_of w f → FlagsOk w f
      → Next (by_address w f c) m at q x
  unfolding by_address
  next_contact p q z flags x slot byte ok =
      let (e, range, is, stands) = subst (AddressedAt c text_limits m at) z read in
      let (a, n) = of_number w e.address in
      let low : e.address < 16777216 = (shows_fits (addressed (λ b. b) c e) (bits_of stands.bytes) stands.written).0 in
      let y : MemberIn w = record { flags = f; address = a; text = e.text } in
      record {
        entry = record { address = a; text = e.text };
        stands = subst⁻¹ (λ (i : ℕ). FieldsAt (address i ++ text c e.text) m at q) n stands;
        ok = allowed_made w f a e.text ok (subst⁻¹ AddressOk n (range.0, low)) (record { short = range.1; units = text_units p.text.coding e.text is.text.stands });
        slot = slot e.text is.end is.text range.1 (subst (◌< 16777216) is.address low)
            ∙ ap₂ (λ (b i : ℕ). b ∷ u24 i ++ text_bytes text_limits.short e.text) byte (sym (n ∙ is.address))
            ∙ bytes_made w y;
      }

-- what the loop did to the contacts
pub contacts_applied : (o : Operation) (m : List ℕ) (flags : ℕ) (p : Entries) (s t u : List ℕ) (r : Bool) → t ≡ start_from o (replicate (length s) 0) s
    → ((w : Members) (f : FlagsIn w) → flags ≡ flags_of w f → FlagsOk w f → KeyedDone (by_address w f p.coding) o m p t u r) → ContactsApplied o m flags p s u r
unfolding by_address
contacts_applied o m flags p s t u r e d w f n xs es byte ok l stand range =
    keyed_applied (by_address w f p.coding) o m p s t u r e (d w f byte ok) n xs es l (stand.counted, (p.next, stand.stands)) range
