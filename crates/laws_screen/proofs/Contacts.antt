-- Contacts and the screen: the name beside an address is the one last sent with it, and a background group has no row. Assumes nothing.
use Rattle.lists.proofs.Kit.{ℕ, ◌≤◌, ◌<◌, ◌≡◌, refl, sym, ap, ◌∙◌, ◌≢◌, ◌↔◌, Bool, List, [], map, Option, none, some, option_some_injective, length, get_or}
use denote.Ref.{Bor}
use Rattle.lists.specs.Ladder.{Answers}
use Rattle.writing.specs.Settings.{Setting}
use Rattle.counted_lists.specs.Counted.{Distinct}
use Rattle.tables.specs.declared.limits.Limits.{Limits}
use Rattle.tables.specs.declared.members.Members.{Members}
use Rattle.tables.specs.declared.members.Members.TheVariants.{OfGroups, OfIndividuals}
use Rattle.tables.specs.Allowed.{Allowed}
use Rattle.tables.specs.Apply.{and_then, has_address}
use Rattle.tables.specs.Limits.{slot_places}
use Rattle.tables.specs.MemberKinds.{AddressIn, MemberIn, contact_key}
use Rattle.tables.specs.Tables.{Tables, GroupMember, fresh}
use Rattle.tables.proofs.ContactSentences.{key_is_number}
use Rattle.screen.specs.declared.rows.Row.{Row}
use Rattle.screen.specs.declared.rows.Row.TheVariants.{Group, GroupContact}
use Rattle.screen.specs.Rows.{Caption, individual_row, caption, of, text_of, unit_bytes}
use Rattle.screen.specs.Screen.{numbering, PartGiven}
use Rattle.screen.proofs.Background.{GroupIn, in_slot, in_contacts, background_number, background_part}
use Rattle.tables.specs.Members.{contacts_in}
use Rattle.laws_screen.specs.ByKey.{found, to_contact, contact_row, contact_caption}
use Rattle.laws_screen.specs.Reached.{Reached, InOrder, all_of, to_group, LastSent}
use Rattle.laws_screen.proofs.ContactSent.{contact_sees}
use Rattle.laws_screen.proofs.Joins.{reached_tables, row_name, came_of, group_sent}
use Rattle.laws_screen.proofs.KeyLaws.{found_there, found_place}
use Rattle.laws_screen.proofs.Sent.{sent_exactly}

-- a fresh set has no contacts
none_yet : (w : Members) (has : MemberIn w → Bool) → found has (contacts_in w fresh) ≡ none
none_yet OfGroups has = refl
none_yet OfIndividuals has = refl

-- no two contacts of a list have one address
one_address : (lim : Limits) (t : Tables) → Allowed lim t → (w : Members) → Distinct (contact_key w) (contacts_in w t)
one_address lim t ok OfGroups = ok.distinct_groups
one_address lim t ok OfIndividuals = ok.distinct_individuals

-- what stands in a contact's row
row_of_contact : (t : Tables) (w : Members) (n : ℕ) → caption t (contact_row w n) ≡ and_then (get_or (map some (contacts_in w t)) n none) (contact_caption w)
row_of_contact t OfGroups n = refl
row_of_contact t OfIndividuals n = go (get_or (map some t.individual_contacts) n none)
  where
    go : (o : Option (MemberIn OfIndividuals)) → of individual_row o ≡ and_then o (contact_caption OfIndividuals)
    go none = refl
    go (some x) = refl

module _ (lim : Limits) (log : List (List Setting)) (t : Tables) (o : InOrder lim fresh log t) (w : Members) where
  -- CONTACT SENT: a contact is held under an address exactly if the last setting for that address sent it
  pub contact_sent : (a : AddressIn w) (x : MemberIn w) → (found (has_address w a) (contacts_in w t) ≡ some x) ↔ LastSent (to_contact w a) (all_of log) x
  contact_sent a = sent_exactly (λ u. found (has_address w a) (contacts_in w u)) (λ u. Unit {0}) (to_contact w a) (contact_sees w a) lim log t o tt (none_yet w (has_address w a))

  -- CONTACT PLACED: what was last sent with an address stands at a position
  pub contact_placed : (a : AddressIn w) (x : MemberIn w) → LastSent (to_contact w a) (all_of log) x → (n : ℕ) × (get_or (map some (contacts_in w t)) n none ≡ some x)
  contact_placed a x s = found_place (has_address w a) x (contacts_in w t) ((contact_sent a x).1 s)

module _ (lim : Limits) (log : List (List Setting)) (store : List ℕ) (x : Reached lim log store) (t : Tables) (o : InOrder lim fresh log t) (w : Members) (n : ℕ) where
  -- what stands at a position is found under its address
  held : (y : MemberIn w) → get_or (map some (contacts_in w t)) n none ≡ some y → found (has_address w y.address) (contacts_in w t) ≡ some y
  held y e =
      found_there (contact_key w) (has_address w y.address) y (key_is_number w (contact_key w y)) (contacts_in w t) (one_address lim t (reached_tables lim log store x t o).1.0 w) n e

  -- CONTACT HELD: the contact at a position is the one that was last sent with its address
  pub contact_held : (y : MemberIn w) → get_or (map some (contacts_in w t)) n none ≡ some y → LastSent (to_contact w y.address) (all_of log) y
  contact_held y e = (contact_sent lim log t o w y.address y).0 (held y e)

  -- CONTACT ROW SENT: what stands in a contact's row, name and address, was sent in one setting, the last for that address
  pub contact_row_sent : (c : Caption) → caption t (contact_row w n) ≡ some c → (y : MemberIn w) × LastSent (to_contact w y.address) (all_of log) y × (contact_caption w y ≡ some c)
  contact_row_sent c e =
      let (y, is, d) = came_of (get_or (map some (contacts_in w t)) n none) (contact_caption w) c (sym (row_of_contact t w n) ∙ e) in
      (y, contact_held y is, d)

module _ (lim : Limits) (log : List (List Setting)) (store scratch : Bor (List ℕ)) (t : Tables) (x : Reached lim log store.now) (o : InOrder lim fresh log t) (big : 36 ≤ length scratch.now) where
  -- CONTACT NAME: the name shown in the row of an address is the one last sent with that address
  pub contact_name : (w : Members) (n : ℕ) (y z : MemberIn w) (c : Caption) (r : Bor (List ℕ)) → get_or (map some (contacts_in w t)) n none ≡ some y → LastSent (to_contact w y.address) (all_of log) z
      → contact_caption w z ≡ some c → text_of c ≢ [] → PartGiven lim store scratch (contact_row w n) r → r.now ≡ unit_bytes (text_of c)
  contact_name w n y z c r e s k full p =
      let same : y ≡ z = option_some_injective y z (sym (held lim log store.now x t o w n y e) ∙ (contact_sent lim log t o w y.address z).1 s) in
      row_name lim log store scratch (contact_row w n) r t x o big p c (row_of_contact t w n ∙ ap (λ q. and_then q (contact_caption w)) (e ∙ ap some same) ∙ k) full

  -- what a row that is not there comes to: 17, and an empty part
  pub record Hidden (row : Row) : Type 0 where
    pub number : (n : ℕ) → Answers (numbering lim store.now scratch.now row) n → n ≡ 17
    pub part : (r : Bor (List ℕ)) → PartGiven lim store scratch row r → r.now ≡ []

  hidden : (g : GroupMember) (row : Row) → GroupIn t g row → g.flags.attribute ≡ 1 → Hidden row
  hidden g row is b =
      let (s, h) = reached_tables lim log store.now x t o in
      record {
        number = background_number lim t g row s.roomy is b store.now scratch.now h big;
        part = λ r p. background_part lim t g row s.roomy is b store scratch r h big p;
      }

  -- BACKGROUND HIDDEN: a group slot whose last setting says background is not shown
  pub background_hidden : (i : ℕ) → i < slot_places → (g : GroupMember) → LastSent (to_group i) (all_of log) g → g.flags.attribute ≡ 1 → Hidden (Group i)
  background_hidden i h g s b = hidden g (Group i) (in_slot ((group_sent lim log t o i h g).1 s)) b

  -- BACKGROUND CONTACT HIDDEN: nor is a group contact, which keeps its position
  pub background_contact_hidden : (n : ℕ) (g : GroupMember) → get_or (map some t.group_contacts) n none ≡ some g → g.flags.attribute ≡ 1 → Hidden (GroupContact n)
  background_contact_hidden n g e b = hidden g (GroupContact n) (in_contacts e) b
