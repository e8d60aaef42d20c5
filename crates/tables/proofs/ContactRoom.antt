-- When a list by a key has no room, be it of contacts or of lines, that line slots always have room, and what contacts leave alone. Assumes nothing.
use Rattle.lists.proofs.Kit.{ℕ, ◌≤◌, ◌≡◌, refl, subst, ◌≢◌, ◌↔◌, Bool, true, false, cond, List, [], ◌∷◌, ◌++◌, Option, none, some, option_some_ne_none, ltb-true, ltb, length}
use Rattle.lists.proofs.Every.{all_any}
use Rattle.slots.specs.Slots.{index_of, put_at, Present}
use Rattle.slots.proofs.Tables.{put_short}
use Rattle.counted_lists.specs.Counted.{put_keyed, Without}
use Rattle.counted_lists.proofs.KeyedLists.{keyed_no_room, keyed_freed}
use Rattle.writing.specs.declared.Kind.TheVariants.{IndividualContacts, Group}
use Rattle.writing.specs.declared.GroupFlags.{GroupFlags}
use Rattle.writing.specs.declared.LineFlags.{LineFlags}
use Rattle.writing.specs.declared.Operation.{Operation}
use Rattle.writing.specs.declared.Operation.TheVariants.{Add, Delete}
use Rattle.plan.specs.declared.numbers.GroupAddress.{GroupAddress}
use Rattle.writing.specs.Settings.{Number, Contact, Addressed, Slot, group_contacts, line_slot}
use Rattle.tables.specs.declared.limits.Limits.{Limits}
use Rattle.tables.specs.declared.members.Members.{Members}
use Rattle.tables.specs.Apply.{in_turn, has_key, line_of, lines_after, put_contact, drop_contact, contact_of, contact_step, contacts_after, change, apply}
use Rattle.tables.specs.MemberKinds.{FlagsIn, AddressIn, MemberIn, number_of, contact_key}
use Rattle.tables.specs.Tables.{Line, line_key, Tables}
use Rattle.tables.proofs.ContactSentences.{has_number, key_is_number, WithoutAddress}
use Rattle.tables.proofs.Owns.{others_stay}
use Rattle.tables.proofs.RoomSentences.{no_room, all_have_room}
use Rattle.tables.proofs.Sentences.{key_is_both}
use Rattle.tables.proofs.StepLaws.{turn_keeps}

-- ---- "A setting has no room when, at some entry, the table is then full and the entry needs a new place"

-- each entry is put by the key of what it makes
abbrev put_made : {A K E : Type 0} → (A → K) → (K → A → Bool) → ℕ → (E → A) → E → List A → Option (List A)
put_made key has room made e ls = put_keyed (has (key (made e))) room (made e) ls

-- after some entries the list is full, and nothing in it has the key of the next
pub record FullAt {A K E : Type 0} (key : A → K) (has : K → A → Bool) (room : ℕ) (made : E → A) (es : List E) (ls : List A) : Type 0 where
  pub done : List E
  pub entry : E
  pub rest : List E
  pub split : es ≡ done ++ entry ∷ rest
  pub table : List A
  pub came : in_turn (put_made key has room made) done ls ≡ some table
  pub full : length table ≡ room
  pub new : Without key (key (made entry)) table

module _ {A K E : Type 0} (key : A → K) (has : K → A → Bool) (decides : (k : K) (a : A) → (has k a ≡ true) ↔ (key a ≡ k)) (room : ℕ) (made : E → A) where
  -- an entry leaves a list that has room for what it holds
  put_fits : (e : E) (ls : List A) → length ls ≤ room → Present (λ us. length us ≤ room) (put_made key has room made e ls)
  put_fits e ls h = go (ltb (index_of (has (key (made e))) ls) room) refl
    where
      go : (b : Bool) → ltb (index_of (has (key (made e))) ls) room ≡ b → Present (λ us. length us ≤ room) (cond b (some (put_at (index_of (has (key (made e))) ls) (made e) ls)) none)
      go true q = put_short (index_of (has (key (made e))) ls) room (made e) ls (ltb-true _ _ q) h
      go false q = tt

  -- KEYED-FULL: so entries that are added have no room exactly there
  pub keyed_full : (es : List E) (ls : List A) → length ls ≤ room → (in_turn (put_made key has room made) es ls ≡ none) ↔ FullAt key has room made es ls
  keyed_full es ls h = (
    λ e.
        let s = (no_room (put_made key has room made) es ls).0 e in
        let (f, n) = (keyed_no_room key has decides room (made s.entry) s.table (fits s.done s.table s.came)).0 s.full in
        record { done = s.done; entry = s.entry; rest = s.rest; split = s.split; table = s.table; came = s.came; full = f; new = n },
    λ s.
        (no_room (put_made key has room made) es ls).1
        (record {
          done = s.done;
          entry = s.entry;
          rest = s.rest;
          split = s.split;
          table = s.table;
          came = s.came;
          full = (keyed_no_room key has decides room (made s.entry) s.table (fits s.done s.table s.came)).1 (s.full, s.new);
        }),
  )
    where
      fits : (ds : List E) (us : List A) → in_turn (put_made key has room made) ds ls ≡ some us → length us ≤ room
      fits ds us q =
          subst (Present (λ us. length us ≤ room)) q
          (turn_keeps (λ us. length us ≤ room) (λ e. Unit {0}) (put_made key has room made) (λ e us _. put_fits e us) ds ls (all_any (λ e. Unit {0}) (λ e. tt) ds) h)

-- LINES-NO-ROOM: lines that are added have no room exactly where, at some entry, the list is full and no line has its key
pub lines_no_room : (room : ℕ) (f : LineFlags) (es : List Contact) (ls : List Line) → length ls ≤ room → (lines_after room Add f es ls ≡ none) ↔ FullAt line_key has_key room (line_of f) es ls
lines_no_room room f = keyed_full line_key has_key key_is_both room (line_of f)

-- ---- group and individual contacts

module _ (w : Members) (room : ℕ) where
  -- CONTACT-NO-ROOM: a contact has no room where the list is full and no contact has its address
  pub contact_no_room : (x : MemberIn w) (xs : List (MemberIn w)) → length xs ≤ room → (put_contact w room x xs ≡ none) ↔ ((length xs ≡ room) × WithoutAddress w x.address xs)
  contact_no_room = keyed_no_room (contact_key w) (has_number w) (key_is_number w) room

  -- CONTACTS-NO-ROOM: contacts that are added have no room exactly where this is so at some entry
  pub contacts_no_room : (f : FlagsIn w) (es : List (Addressed (AddressIn w))) (xs : List (MemberIn w)) → length xs ≤ room
      → (contacts_after w room Add f es xs ≡ none) ↔ FullAt (contact_key w) (has_number w) room (contact_of f) es xs
  contacts_no_room f = keyed_full (contact_key w) (has_number w) (key_is_number w) room (contact_of f)

  -- contacts that are deleted need none
  pub contacts_deleted : (f : FlagsIn w) (es : List (Addressed (AddressIn w))) (xs : List (MemberIn w)) → contacts_after w room Delete f es xs ≢ none
  contacts_deleted f es xs = all_have_room (contact_step w room Delete f) (λ e us h. option_some_ne_none _ h) es xs

  -- CONTACT-FREED: after a contact was deleted, any contact has room
  pub contact_freed : (a : AddressIn w) (before : List (MemberIn w)) (x : MemberIn w) (after : List (MemberIn w)) → contact_key w x ≡ number_of w a → length (before ++ x ∷ after) ≤ room
      → (y : MemberIn w) → put_contact w room y (drop_contact w a (before ++ x ∷ after)) ≢ none
  contact_freed a = keyed_freed (contact_key w) (has_number w) (key_is_number w) room (number_of w a)

-- CONTACTS-APART: group contacts leave the group slots and the individual contacts, whatever their addresses
pub contacts_apart : (lim : Limits) (o : Operation) (f : GroupFlags) (es : List (Addressed GroupAddress)) (t u : Tables) → apply lim (group_contacts o f es) t ≡ some u
    → (u.groups ≡ t.groups) × (u.individual_contacts ≡ t.individual_contacts)
contacts_apart lim o f es t u e = (others_stay lim (group_contacts o f es) t u Group e refl, others_stay lim (group_contacts o f es) t u IndividualContacts e refl)

-- ---- line slots

-- LINE-SLOT-HAS-ROOM: a line slot is never full
pub line_slot_has_room : (lim : Limits) (o : Operation) (f : LineFlags) (s : Slot Number) (t : Tables) → change lim (line_slot o f s) t ≢ none
line_slot_has_room lim o f s t h = option_some_ne_none _ h
