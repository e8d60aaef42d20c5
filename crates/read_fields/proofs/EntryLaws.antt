-- Entries at a place: a number and a text, or bytes of a fixed number and a text. Assumes nothing.
use Rattle.std.specs.Prelude.{Option, Some, None}
use Rattle.lists.proofs.Kit.{ℕ, ◌+◌, ◌*◌, ◌%◌, ◌≤◌, ◌<◌, ◌≡◌, refl, sym, ap, ◌∙◌, subst, subst⁻¹, List, [], ◌∷◌, ◌++◌, arith, length, drop, take}
use Rattle.lists.specs.Bytes.{Bytes}
use Rattle.writing.specs.Fields.{Field, val, res, widths}
use Rattle.writing.specs.Ranges.{TextLimits, text_limits, InAddressed}
use Rattle.writing.specs.declared.Coding.{Coding}
use Rattle.writing.specs.Settings.{Contact, Entry}
use Rattle.writing.specs.Writing.{text, number, address, contact, quick_text, status_text}
use Rattle.writing.proofs.Ends.{Ends}
use Rattle.writing.proofs.Unique.{number_ends, text_ends, address_ends, addressed_ends, contact_ends, quick_ends, status_ends}
use Rattle.writing.proofs.Whole.{number_whole, entry_whole, contact_whole, addressed_whole}
use Rattle.read_fields.specs.Places.{FieldsAt, be}
use Rattle.read_fields.specs.TextsAndNumbers.{TextAt, NumberAt}
use Rattle.read_fields.specs.Entries.{ContactAt, AddressedAt, EntryAt, EntryOf, form_of, range_of, PassAt}
use Rattle.read_fields.specs.declared.numbers.NumberPlace.{NumberPlace}
use Rattle.read_fields.specs.declared.texts.TextPlace.{TextPlace}
use Rattle.read_fields.specs.declared.entries.Listed.{Listed}
use Rattle.read_fields.specs.declared.entries.Listed.TheVariants.{Contacts, Addressed as WithAddress, QuickTexts, StatusTexts}
use Rattle.read_fields.specs.declared.entries.EntryPlace.{EntryPlace}
use Rattle.read_fields.proofs.Heads.{Cut, head_in, head_out}
use Rattle.read_fields.proofs.Parts.{part_join, part_split}
use Rattle.read_fields.proofs.TextWalk.{text_read}
use Rattle.read_fields.proofs.Walk.{one_part}

-- ---- line contacts

module _ (c : Coding) (k : TextLimits) (m : List ℕ) (at : ℕ) where
  -- a contact is a number and then a text
  contact_parts : (e : Contact) (next : ℕ) → FieldsAt (contact c e) m at next
      → (q : ℕ) × FieldsAt (number e.number) m at q × FieldsAt (text c e.text) m q next
  contact_parts e next x =
      let (n, w) = number_whole e.number in
      let (a, b) = part_split (number e.number) (text c e.text) m at n next w x in
      (at + n, a, b)

  -- no contact where no number stands
  pub no_number : {r : Option (NumberPlace × ℕ)} → NumberAt m at r → r ≡ None → ContactAt c k m at None
  no_number n e x next i y =
      let (q, a, b) = contact_parts x next y in
      subst (NumberAt m at) e n x.number q i.0 a

  module _ {r : Option (NumberPlace × ℕ)} (p : NumberPlace) (q : ℕ) (n : NumberAt m at r) (e : r ≡ Some (p, q)) where
    -- none where no text stands after the number
    pub no_contact_text : {t : Option (TextPlace × ℕ)} → TextAt c m q k.short t → t ≡ None → ContactAt c k m at None
    no_contact_text t d x next i y =
        let (ds, s, j, is) = subst (NumberAt m at) e n in
        let (q', a, b) = contact_parts x next y in
        let z : FieldsAt (number ds) m at q = subst (λ (z : ℕ). FieldsAt (number ds) m z q) s is.stands in
        let same : q ≡ q' = (one_part number number_ends ds x.number m at q q' z a).1 in
        subst (TextAt c m q k.short) d t x.text next i.1 (subst (λ (z : ℕ). FieldsAt (text c x.text) m z next) (sym same) b)

    -- the contact where both do
    pub the_contact : {t : Option (TextPlace × ℕ)} (u : TextPlace) (next : ℕ) → TextAt c m q k.short t → t ≡ Some (u, next)
        → ContactAt c k m at (Some (record { number = p; text = u }, next))
    the_contact u next t d =
        let (ds, s, j, is) = subst (NumberAt m at) e n in
        let (us, l, tis, there) = text_read c m q k.short u next t d in (
          record { number = ds; text = us },
          (j, l),
          record { middle = q; end = next; number = is; text = tis },
          part_join (number ds) (text c us) m at q next (subst (λ (z : ℕ). FieldsAt (number ds) m z q) s is.stands) there,
        )

-- ---- an index or a code in one byte, or an address in three, and a text

-- so many bytes that say i
pub record Says (bytes : ℕ) (head : ℕ → List Field) (index : ℕ → ℕ) : Type 0 where
  pub some_byte : 0 < bytes
  pub wide : (i : ℕ) → widths (head i) ≡ 8 * bytes
  pub says : (i N : ℕ) → Cut (head i) N → i ≡ index N
  pub said : (N : ℕ) → Cut (head (index N)) N

-- a quick text's byte: reserved 2, index 6
pub quick_byte : Says 1 (λ i. res 2 ∷ val 6 i ∷ []) (λ N. N % 64)
quick_byte = record { some_byte = omega arith; wide = λ i. refl; says = λ i N c. omega (arith, c.1.0); said = λ N. (tt, (omega arith, tt)) }

-- a status text's byte: code 8
pub status_byte : Says 1 (λ i. val 8 i ∷ []) (λ N. N % 256)
status_byte = record { some_byte = omega arith; wide = λ i. refl; says = λ i N c. omega (arith, c.0); said = λ N. (omega arith, tt) }

-- an address's bytes: address 24
pub address_bytes : Says 3 address (λ N. N % 16777216)
address_bytes = record { some_byte = omega arith; wide = λ i. refl; says = λ i N c. omega (arith, c.0); said = λ N. (omega arith, tt) }

-- a quick text is whole bytes, and so is a status text
pub quick_whole : (c : Coding) (e : Entry) → (n : ℕ) × (widths (quick_text c e) ≡ 8 * n)
quick_whole c e = entry_whole c (res 2 ∷ val 6 e.index ∷ []) refl e.text

pub status_whole : (c : Coding) (e : Entry) → (n : ℕ) × (widths (status_text c e) ≡ 8 * n)
status_whole c e = entry_whole c (val 8 e.index ∷ []) refl e.text

-- entries of every list say where they end, and are whole bytes
pub list_ends : (l : Listed) (c : Coding) → Ends (form_of l c)
list_ends Contacts c = contact_ends c
list_ends WithAddress c = addressed_ends (λ a. a) (address_ends (λ a. a) (λ x y e. e)) c
list_ends (QuickTexts least) c = quick_ends c
list_ends StatusTexts c = status_ends c

pub list_whole : (l : Listed) (c : Coding) (e : EntryOf l) → (n : ℕ) × (widths (form_of l c e) ≡ 8 * n)
list_whole Contacts c e = contact_whole c e
list_whole WithAddress c e = addressed_whole (λ a. a) c e
list_whole (QuickTexts least) c e = quick_whole c e
list_whole StatusTexts c e = status_whole c e

-- what is passed of a list is passed of the same list
pub by_list : {l list : Listed} (c : Coding) (m : List ℕ) (at : ℕ) (w : Option ℕ) → l ≡ list
    → PassAt (form_of list c) (range_of list text_limits) m at w → PassAt (form_of l c) (range_of l text_limits) m at w
by_list c m at w e z = subst⁻¹ (λ (x : Listed). PassAt (form_of x c) (range_of x text_limits) m at w) e z

module _ (n : ℕ) (head : ℕ → List Field) (index : ℕ → ℕ) (key : Says n head index) (c : Coding) (In : Entry → Type 0) (m : List ℕ) (at : ℕ) (h : Bytes m) where
  abbrev form : Entry → List Field
  form e = head e.index ++ text c e.text

  -- an entry is its bytes and then a text
  entry_parts : (e : Entry) (next : ℕ) → FieldsAt (form e) m at next
      → (at + n ≤ length m) × (e.index ≡ index (be 0 (take n (drop at m)))) × FieldsAt (text c e.text) m (at + n) next
  entry_parts e next x =
      let (r, k, y) = head_out (head e.index) (text c e.text) m at n (key.wide e.index) key.some_byte h next x in
      (r, key.says e.index _ k, y)

  -- none where too few bytes are left
  pub no_byte : (at + n ≤ length m → ⊥) → EntryAt form In m at None
  no_byte never e next i x = never (entry_parts e next x).0

  module _ {N : ℕ} (byte : N ≡ be 0 (take n (drop at m))) where
    -- none where the index is out of range
    pub no_index : ((e : Entry) → In e → e.index ≡ index N → ⊥) → EntryAt form In m at None
    no_index never e next i x = never e i ((entry_parts e next x).1 ∙ ap index (sym byte))

    module _ (limit : ℕ) (short : (e : Entry) → In e → length e.text ≤ limit) where
      -- none where no text stands
      pub no_entry_text : {t : Option (TextPlace × ℕ)} → TextAt c m (at + n) limit t → t ≡ None → EntryAt form In m at None
      no_entry_text t d e next i x = subst (TextAt c m (at + n) limit) d t e.text next (short e i) (entry_parts e next x).2

      module _ {t : Option (TextPlace × ℕ)} (u : TextPlace) (next : ℕ) (at_text : TextAt c m (at + n) limit t) (d : t ≡ Some (u, next)) where
        -- none where the text that stands is out of range
        pub no_such_text : ((e : Entry) → In e → length e.text ≡ u.units → ⊥) → EntryAt form In m at None
        no_such_text never e after i x =
            let (us, l, tis, y) = text_read c m (at + n) limit u next at_text d in
            let same : us ≡ e.text = (one_part (text c) (text_ends c) us e.text m (at + n) next after y (entry_parts e after x).2).0 in
            never e i (sym (ap length same) ∙ tis.units)

        -- the entry where index and text are in range
        pub the_entry : (i : ℕ) → i ≡ index N → at + n ≤ length m → ((us : List ℕ) → length us ≤ limit → length us ≡ u.units → In (record { index = i; text = us }))
            → EntryAt form In m at (Some (record { index = i; text = u }, next))
        the_entry i e room range =
            let (us, l, tis, y) = text_read c m (at + n) limit u next at_text d in (
              record { index = i; text = us },
              range us l tis.units,
              record { index = refl; end = next; text = tis },
              head_in (head i) (text c us) m at n (key.wide i) key.some_byte h next room
                  (subst (Cut (head i)) byte (subst (λ (j : ℕ). Cut (head j) N) (sym e) (key.said N))) y,
            )

-- ---- contacts with an address: entries whose index is the address

-- what such an entry's range says
abbrev pub InEntry : TextLimits → Entry → Type 0
InEntry k e = InAddressed (λ a. a) k (record { address = e.index; text = e.text })

module _ (c : Coding) (k : TextLimits) (m : List ℕ) (at : ℕ) where
  -- none where no such entry stands
  pub no_addressed : EntryAt (λ e. address e.index ++ text c e.text) (InEntry k) m at None → AddressedAt c k m at None
  no_addressed never e next i x = never (record { index = e.address; text = e.text }) next i x

  -- the contact that the entry is
  pub the_addressed : (p : EntryPlace) (next : ℕ) → EntryAt (λ e. address e.index ++ text c e.text) (InEntry k) m at (Some (p, next))
      → AddressedAt c k m at (Some (record { address = p.index; text = p.text }, next))
  the_addressed p next (e, i, is, x) =
      (record { address = e.index; text = e.text }, i, record { address = is.index; end = is.end; text = is.text }, x)
