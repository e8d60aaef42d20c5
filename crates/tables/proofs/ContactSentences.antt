-- What each operation does to group and individual contacts, which are kept by their address, and to line slots. Assumes nothing.
use Rattle.lists.proofs.Kit.{ℕ, ◌≤◌, ◌<◌, ◌≡◌, refl, ap, ◌↔◌, Bool, true, List, [], ◌∷◌, ◌++◌, none, some, eqb, eqb-true, eq-eqb, get_or, length, set}
use Rattle.counted_lists.specs.Counted.{Without}
use Rattle.counted_lists.proofs.KeyedLists.{keyed_new, keyed_known, drop_known, drop_absent}
use Rattle.writing.specs.declared.Kind.TheVariants.{GroupContacts, IndividualContacts, LineSlot}
use Rattle.writing.specs.declared.GroupFlags.{GroupFlags}
use Rattle.writing.specs.declared.IndividualFlags.{IndividualFlags}
use Rattle.writing.specs.declared.LineFlags.{LineFlags}
use Rattle.writing.specs.declared.Operation.{Operation}
use Rattle.writing.specs.declared.Operation.TheVariants.{Add, Delete, Replace}
use Rattle.writing.specs.Settings.{Number, Addressed, Slot, group_contacts, individual_contacts, line_slot}
use Rattle.tables.specs.declared.limits.Limits.{Limits}
use Rattle.tables.specs.declared.members.Members.{Members}
use Rattle.tables.specs.declared.members.Members.TheVariants.{OfGroups, OfIndividuals}
use Rattle.tables.specs.Apply.{start_from, has_address, contact_of, contact_step, contacts_after, change}
use Rattle.tables.specs.MemberKinds.{FlagsIn, AddressIn, MemberIn, number_of, contact_key}
use Rattle.tables.specs.Owns.{put_own}
use Rattle.tables.specs.Tables.{Tables}
use Rattle.tables.proofs.Sentences.{place_empty}

-- ---- "group and individual contacts keyed by address"

-- whether a contact's address has this number
abbrev pub has_number : (w : Members) → ℕ → MemberIn w → Bool
has_number w n x = eqb (contact_key w x) n

-- it has where its key is the number
pub key_is_number : (w : Members) (n : ℕ) (x : MemberIn w) → (has_number w n x ≡ true) ↔ (contact_key w x ≡ n)
key_is_number w n x = (eqb-true (contact_key w x) n, eq-eqb (contact_key w x) n)

-- CONTACT-KEY-IS-ADDRESS: a contact has an address where its key is the address's number
pub contact_key_is_address : (w : Members) (a : AddressIn w) (x : MemberIn w) → (has_address w a x ≡ true) ↔ (contact_key w x ≡ number_of w a)
contact_key_is_address w a x = key_is_number w (number_of w a) x

-- an address is told by its number
number_tells : (w : Members) (a b : AddressIn w) → number_of w a ≡ number_of w b → a ≡ b
number_tells OfGroups a b e = λ i. record { 0 = e i }
number_tells OfIndividuals a b e = λ i. record { 0 = e i }

-- CONTACT-HAS-ADDRESS: so it has an address where that is its own
pub contact_has_address : (w : Members) (a : AddressIn w) (x : MemberIn w) → (has_address w a x ≡ true) ↔ (x.address ≡ a)
contact_has_address w a x = (
  λ e. number_tells w x.address a ((contact_key_is_address w a x).0 e),
  λ e. (contact_key_is_address w a x).1 (ap (number_of w) e),
)

-- no contact has the address a
abbrev pub WithoutAddress : (w : Members) → AddressIn w → List (MemberIn w) → Type 0
WithoutAddress w a xs = Without (contact_key w) (number_of w a) xs

module _ (w : Members) (room : ℕ) (f : FlagsIn w) (e : Addressed (AddressIn w)) where
  -- an add puts a new address at the end
  pub contact_add_new : (xs : List (MemberIn w)) → WithoutAddress w e.address xs → length xs < room → contact_step w room Add f e xs ≡ some (xs ++ (contact_of f e ∷ []))
  contact_add_new = keyed_new (contact_key w) (has_number w) (key_is_number w) room (contact_of f e)

  -- and overwrites a known one in its place, flags included; the others stay, and a full list has room for it
  pub contact_add_known : (before : List (MemberIn w)) (x : MemberIn w) (after : List (MemberIn w)) → WithoutAddress w e.address before → contact_key w x ≡ number_of w e.address
      → length (before ++ x ∷ after) ≤ room → contact_step w room Add f e (before ++ x ∷ after) ≡ some (before ++ contact_of f e ∷ after)
  contact_add_known = keyed_known (contact_key w) (has_number w) (key_is_number w) room (contact_of f e)

  -- a delete closes the gap: the others keep their order
  pub contact_delete : (before : List (MemberIn w)) (x : MemberIn w) (after : List (MemberIn w)) → WithoutAddress w e.address before → contact_key w x ≡ number_of w e.address
      → WithoutAddress w e.address after → contact_step w room Delete f e (before ++ x ∷ after) ≡ some (before ++ after)
  contact_delete before x after h n k = ap some (drop_known (contact_key w) (has_number w) (key_is_number w) (number_of w e.address) before x after h n k)

  -- and does nothing where the address isn't there
  pub contact_delete_absent : (xs : List (MemberIn w)) → WithoutAddress w e.address xs → contact_step w room Delete f e xs ≡ some xs
  contact_delete_absent xs h = ap some (drop_absent (contact_key w) (has_number w) (key_is_number w) (number_of w e.address) xs h)

-- a replace empties the list, then adds each entry in order: what was there before does not matter
pub contacts_replace : (w : Members) (room : ℕ) (f : FlagsIn w) (es : List (Addressed (AddressIn w))) (xs : List (MemberIn w)) → contacts_after w room Replace f es xs ≡ contacts_after w room Add f es []
contacts_replace w room f es xs = refl

-- "Count 0 is allowed": an add or a delete with no entries changes nothing, and a replace empties the list
module _ (lim : Limits) (t : Tables) where
  pub group_contacts_count_0 : (o : Operation) (f : GroupFlags) → change lim (group_contacts o f []) t ≡ some (start_from o (put_own GroupContacts t []) t)
  group_contacts_count_0 Add f = refl
  group_contacts_count_0 Delete f = refl
  group_contacts_count_0 Replace f = refl

  pub individual_contacts_count_0 : (o : Operation) (f : IndividualFlags) → change lim (individual_contacts o f []) t ≡ some (start_from o (put_own IndividualContacts t []) t)
  individual_contacts_count_0 Add f = refl
  individual_contacts_count_0 Delete f = refl
  individual_contacts_count_0 Replace f = refl

-- ---- line slots: "Status texts and slots: add overwrites"

module _ (lim : Limits) (f : LineFlags) (s : Slot Number) (t : Tables) where
  -- whatever was there
  pub line_slot_add : change lim (line_slot Add f s) t ≡ some (put_own LineSlot t (set t.line_slots s.index (some (record { flags = f; number = s.address; text = s.text }))))
  line_slot_add = refl

  -- a delete empties the slot
  pub line_slot_delete : change lim (line_slot Delete f s) t ≡ some (put_own LineSlot t (set t.line_slots s.index none))
  line_slot_delete = refl

  -- "Deleting what isn't there does nothing"
  pub line_slot_delete_absent : get_or t.line_slots s.index none ≡ none → change lim (line_slot Delete f s) t ≡ some t
  line_slot_delete_absent h = ap (λ x. some (put_own LineSlot t x)) (place_empty t.line_slots s.index h)
