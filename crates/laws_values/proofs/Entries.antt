-- What a setting leaves in a place is made of one entry of it. Assumes nothing.
use Rattle.lists.proofs.Kit.{ℕ, ◌≡◌, refl, sym, ap, ◌∙◌, ◌≢◌, ◌↔◌, ◌⊎◌, inl, inr, Bool, true, false, cond, true≢false, List, [], ◌∷◌, map, Option, none, some, option_some_injective, option_none_ne_some, eqb, eqb-true, arith}
use Rattle.lists.specs.Every.{All}
use Rattle.writing.specs.declared.Operation.{Operation}
use Rattle.writing.specs.declared.Operation.TheVariants.{Add, Delete, Replace}
use Rattle.writing.specs.Settings.{Setting, Slot, group_contacts, individual_contacts, lines, key, quick_texts, home, channels, system, status_texts, group, individual, line_slot, last}
use Rattle.tables.specs.declared.members.Members.TheVariants.{OfGroups, OfIndividuals}
use Rattle.tables.specs.Apply.{slot_after, with_room, has_key, has_address, contact_of, line_of}
use Rattle.tables.specs.Tables.{Line, line_key, GroupMember, IndividualMember}
use Rattle.tables.proofs.ContactSentences.{contact_has_address}
use Rattle.tables.proofs.Sentences.{key_is_both}
use Rattle.laws_screen.specs.ByKey.{last_or, under_key, to_group_contact, to_individual_contact, to_line}
use Rattle.laws_screen.specs.Reached.{to_group, to_individual, to_line_slot, LastSent}
use Rattle.laws_screen.proofs.Sent.{sent_left}
use Rattle.laws_values.specs.Sent.{OneSlot, LastEntry, OneOfList, SentTogether, member_of, slot_line_of, GroupSent, IndividualSent, LineSlotSent, GroupContactSent, IndividualContactSent, LineSent}

-- ---- a list's setting

module _ {E A K : Type 0} (make : E → A) (key_of : A → K) (has : A → Bool) (a : A) (decides : (b : A) → (has b ≡ true) ↔ (key_of b ≡ key_of a)) where
  -- what was there before, or one of these
  found_last : (o : Option A) (es : List E) → last_or has o (map make es) ≡ some a → LastEntry make key_of es a ⊎ ((o ≡ some a) × All (λ e. key_of (make e) ≢ key_of a) es)
  found_last o [] e = inr (e, tt)
  found_last o (x ∷ es) e = by (has (make x)) refl (found_last (cond (has (make x)) (some (make x)) o) es e)
    where
      by : (b : Bool) → has (make x) ≡ b → LastEntry make key_of es a ⊎ ((cond b (some (make x)) o ≡ some a) × All (λ e. key_of (make e) ≢ key_of a) es)
          → LastEntry make key_of (x ∷ es) a ⊎ ((o ≡ some a) × All (λ e. key_of (make e) ≢ key_of a) (x ∷ es))
      by b h (inl l) = inl (record { earlier = x ∷ l.earlier; entry = l.entry; later = l.later; split = ap (λ k. x ∷ k) l.split; made = l.made; others = l.others })
      by true h (inr (is, others)) = inl (record { earlier = []; entry = x; later = es; split = refl; made = sym (option_some_injective (make x) a is); others = others })
      by false h (inr (is, others)) = inr (is, (λ k. true≢false (sym ((decides (make x)).1 k) ∙ h), others))

  -- LAST ENTRY: the last that a list has of a key is made of one entry of it, and no later one has that key
  pub last_entry : (es : List E) → last_or has none (map make es) ≡ some a → LastEntry make key_of es a
  last_entry es e = by (found_last none es e)
    where
      by : LastEntry make key_of es a ⊎ ((none ≡ some a) × All (λ e. key_of (make e) ≢ key_of a) es) → LastEntry make key_of es a
      by (inl l) = l
      by (inr (is, others)) = absurd (option_none_ne_some a is)

-- no add and no replace is a delete
add_puts : Add ≢ Delete
add_puts e = let z : ◌≡◌ {A = ℕ} 0 1 = cc in omega arith

replace_puts : Replace ≢ Delete
replace_puts e = let z : ◌≡◌ {A = ℕ} 0 1 = cc in omega arith

-- what an operation leaves under a key, its entries leave, and it is no delete
key_put : {A : Type 0} (has : A → Bool) (o : Operation) (l : List A) (a : A) → under_key has o l ≡ some (some a) → (o ≢ Delete) × (last_or has none l ≡ some a)
key_put has Add l a e = (add_puts, by (last_or has none l) e)
  where
    by : (q : Option _) → with_room some q ≡ some (some a) → q ≡ some a
    by none k = absurd (option_none_ne_some (some a) k)
    by (some b) k = option_some_injective (some b) (some a) k
key_put {A} has Delete l a e = absurd (by (last_or has none l) e)
  where
    by : (q : Option A) → with_room (λ (x : A). none) q ≡ some (some a) → ⊥
    by none k = option_none_ne_some (some a) k
    by (some b) k = option_none_ne_some a (option_some_injective none (some a) k)
key_put has Replace l a e = (replace_puts, option_some_injective (last_or has none l) (some a) e)

module _ {F E A K : Type 0} (of : Operation → F → List E → Setting) (make : F → E → A) (key_of : A → K) (has : A → Bool) (a : A) (decides : (b : A) → (has b ≡ true) ↔ (key_of b ≡ key_of a)) where
  list_entry : (o : Operation) (f : F) (es : List E) → under_key has o (map (make f) es) ≡ some (some a) → OneOfList of make key_of (of o f es) a
  list_entry o f es e =
      let (puts, is) = key_put has o (map (make f) es) a e in
      record { operation = o; flags = f; entries = es; is = refl; no_delete = puts; one = last_entry (make f) key_of has a decides es is }

-- ---- a slot's setting

slot_put : {A : Type 0} (o : Operation) (b a : A) → slot_after o b ≡ some a → (o ≢ Delete) × (a ≡ b)
slot_put Add b a e = (add_puts, sym (option_some_injective b a e))
slot_put Delete b a e = absurd (option_none_ne_some a e)
slot_put Replace b a e = (replace_puts, sym (option_some_injective b a e))

module _ {F D A : Type 0} (of : Operation → F → Slot D → Setting) (make : F → Slot D → A) (i : ℕ) (a : A) where
  slot_entry : (o : Operation) (f : F) (s : Slot D) → cond (eqb s.index i) (some (slot_after o (make f s))) none ≡ some (some a) → OneSlot of make i (of o f s) a
  slot_entry o f s e = by (eqb s.index i) refl e
    where
      by : (b : Bool) → eqb s.index i ≡ b → cond b (some (slot_after o (make f s))) none ≡ some (some a) → OneSlot of make i (of o f s) a
      by true h k =
          let (puts, is) = slot_put o (make f s) a (option_some_injective (slot_after o (make f s)) (some a) k) in
          record { operation = o; flags = f; entry = s; is = refl; no_delete = puts; slot = eqb-true s.index i h; made = is }
      by false h k = absurd (option_none_ne_some (some a) k)

-- ---- every setting

-- what it leaves in a place is made of one entry of it: of the three tables of slots, and of the three lists
abbrev InOne : Setting → Type 0
InOne s =
    ((i : ℕ) (g : GroupMember) → to_group i s ≡ some (some g) → OneSlot group member_of i s g)
    × ((i : ℕ) (g : IndividualMember) → to_individual i s ≡ some (some g) → OneSlot individual member_of i s g)
    × ((i : ℕ) (m : Line) → to_line_slot i s ≡ some (some m) → OneSlot line_slot slot_line_of i s m)
    × ((g : GroupMember) → to_group_contact g.address s ≡ some (some g) → OneOfList group_contacts contact_of (λ x. x.address) s g)
    × ((g : IndividualMember) → to_individual_contact g.address s ≡ some (some g) → OneOfList individual_contacts contact_of (λ x. x.address) s g)
    × ((m : Line) → to_line (line_key m) s ≡ some (some m) → OneOfList lines line_of line_key s m)

-- a setting that leaves nothing there
never : {A B : Type 0} {a : A} → none ≡ some a → B
never {a} e = absurd (option_none_ne_some a e)

in_one : (s : Setting) → InOne s
in_one (group_contacts o f es) =
    (λ i g. never, λ i g. never, λ i m. never, λ g. list_entry group_contacts contact_of (λ x. x.address) (has_address OfGroups g.address) g (contact_has_address OfGroups g.address) o f es, λ g. never, λ m. never)
in_one (individual_contacts o f es) =
    (λ i g. never, λ i g. never, λ i m. never, λ g. never, λ g. list_entry individual_contacts contact_of (λ x. x.address) (has_address OfIndividuals g.address) g (contact_has_address OfIndividuals g.address) o f es, λ m. never)
in_one (lines o f es) = (λ i g. never, λ i g. never, λ i m. never, λ g. never, λ g. never, λ m. list_entry lines line_of line_key (has_key (line_key m)) m (key_is_both (line_key m)) o f es)
in_one (key t f) = (λ i g. never, λ i g. never, λ i m. never, λ g. never, λ g. never, λ m. never)
in_one (quick_texts o es) = (λ i g. never, λ i g. never, λ i m. never, λ g. never, λ g. never, λ m. never)
in_one (home h) = (λ i g. never, λ i g. never, λ i m. never, λ g. never, λ g. never, λ m. never)
in_one (channels o ns) = (λ i g. never, λ i g. never, λ i m. never, λ g. never, λ g. never, λ m. never)
in_one (system x) = (λ i g. never, λ i g. never, λ i m. never, λ g. never, λ g. never, λ m. never)
in_one (status_texts o es) = (λ i g. never, λ i g. never, λ i m. never, λ g. never, λ g. never, λ m. never)
in_one (group o f s) = (λ i g. slot_entry group member_of i g o f s, λ i g. never, λ i m. never, λ g. never, λ g. never, λ m. never)
in_one (individual o f s) = (λ i g. never, λ i g. slot_entry individual member_of i g o f s, λ i m. never, λ g. never, λ g. never, λ m. never)
in_one (line_slot o f s) = (λ i g. never, λ i g. never, λ i m. slot_entry line_slot slot_line_of i m o f s, λ g. never, λ g. never, λ m. never)
in_one (last f h) = (λ i g. never, λ i g. never, λ i m. never, λ g. never, λ g. never, λ m. never)

-- ---- what was last sent for a place was sent together

module _ {A : Type 0} (to : Setting → Option (Option A)) (One : Setting → A → Type 0) (l : List Setting) where
  together : (a : A) → ((s : Setting) → to s ≡ some (some a) → One s a) → LastSent to l a → SentTogether to One l a
  together a one x = record { last = x; entry = one x.setting x.sent }

  -- ONE SENT: and nothing else was sent so for that place
  pub one_sent : (a b : A) → SentTogether to One l a → SentTogether to One l b → a ≡ b
  one_sent a b x y = option_some_injective a b (sym (sent_left to l a none x.last) ∙ sent_left to l b none y.last)

module _ (l : List Setting) where
  -- SLOTS TOGETHER: of the slots
  pub group_together : (i : ℕ) (g : GroupMember) → LastSent (to_group i) l g → GroupSent l i g
  group_together i g = together (to_group i) (OneSlot group member_of i) l g (λ s. (in_one s).0 i g)

  pub individual_together : (i : ℕ) (g : IndividualMember) → LastSent (to_individual i) l g → IndividualSent l i g
  individual_together i g = together (to_individual i) (OneSlot individual member_of i) l g (λ s. (in_one s).1 i g)

  pub line_slot_together : (i : ℕ) (m : Line) → LastSent (to_line_slot i) l m → LineSlotSent l i m
  line_slot_together i m = together (to_line_slot i) (OneSlot line_slot slot_line_of i) l m (λ s. (in_one s).2 i m)

  -- LISTS TOGETHER: and of the lists
  pub group_contact_together : (g : GroupMember) → LastSent (to_group_contact g.address) l g → GroupContactSent l g
  group_contact_together g = together (to_group_contact g.address) (OneOfList group_contacts contact_of (λ x. x.address)) l g (λ s. (in_one s).3 g)

  pub individual_contact_together : (g : IndividualMember) → LastSent (to_individual_contact g.address) l g → IndividualContactSent l g
  individual_contact_together g = together (to_individual_contact g.address) (OneOfList individual_contacts contact_of (λ x. x.address)) l g (λ s. (in_one s).4 g)

  pub line_together : (m : Line) → LastSent (to_line (line_key m)) l m → LineSent l m
  line_together m = together (to_line (line_key m)) (OneOfList lines line_of line_key) l m (λ s. (in_one s).5 m)
