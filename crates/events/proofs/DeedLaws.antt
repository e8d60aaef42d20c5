-- The events of deeds: one list after another, those of a setting for its own table and for others, and their numbers, which rise. Assumes nothing.
use Rattle.lists.proofs.Kit.{ℕ, suc, ◌+◌, ◌-◌, ◌≡◌, refl, sym, ap, ap₂, ◌∙◌, subst, Bool, true, false, cond, List, [], ◌∷◌, ◌++◌, map, append_assoc, add-zero, add-suc, suc-add, arith, length}
use Rattle.writing.specs.declared.Kind.{Kind}
use Rattle.writing.specs.declared.Kind.TheVariants.{GroupContacts, IndividualContacts, Lines, QuickTexts, Channels, StatusTexts, Group, Individual, LineSlot}
use Rattle.writing.specs.declared.Operation.{Operation}
use Rattle.writing.specs.declared.Operation.TheVariants.{Add, Delete, Replace}
use Rattle.writing.specs.Settings.{Contact, Entry, Setting, kind, group_contacts, individual_contacts, lines, key, quick_texts, home, channels, system, status_texts, group, individual, line_slot, last}
use Rattle.tables.specs.declared.members.Members.TheVariants.{OfGroups, OfIndividuals}
use Rattle.tables.specs.Apply.{line_of, entry_key, contact_of}
use Rattle.tables.specs.Owns.{only}
use Rattle.events.specs.Events.{Event, clear, put, remove, Rising}
use Rattle.events.specs.Settings.{bare, events_by, line_events, contact_events, channel_events, quick_events, status_events, member_at, line_at, Puts, Names, Does, Its, its_group_contacts, its_individual_contacts, its_lines, its_key, its_quick_texts, its_home, its_channels, its_system, its_status_texts, its_group, its_individual, its_line_slot, its_last}
use Rattle.events.specs.Deeds.{Seen, seen_as, code_of, as_seen, Spoken, Deed, nothing, clears, puts, removes, doing, opening, listing, deeds, told, from_on, events_from}
use Rattle.events.proofs.Numbering.{rising_from}
use Rattle.events.proofs.Alone.{only_itself}

-- ---- deeds one after another

-- the first, and then the others
pub told_first : (k : Kind) (n : ℕ) (d : Deed) (ds : List Deed) → told k n (d ∷ ds) ≡ told k n (d ∷ []) ++ told k (suc n) ds
told_first k n nothing ds = refl
told_first k n (clears j) ds = go (only j k)
  where
    go : (b : Bool) → cond b (clear ∷ told k (suc n) ds) (told k (suc n) ds) ≡ cond b (clear ∷ []) [] ++ told k (suc n) ds
    go true = refl
    go false = refl
told_first k n (puts j a) ds = go (only j k)
  where
    go : (b : Bool) → cond b (put n a ∷ told k (suc n) ds) (told k (suc n) ds) ≡ cond b (put n a ∷ []) [] ++ told k (suc n) ds
    go true = refl
    go false = refl
told_first k n (removes j c) ds = go (only j k)
  where
    go : (b : Bool) → cond b (remove c ∷ told k (suc n) ds) (told k (suc n) ds) ≡ cond b (remove c ∷ []) [] ++ told k (suc n) ds
    go true = refl
    go false = refl

-- TOLD-APPEND: deeds, and then others, whose numbers go on
pub told_append : (k : Kind) (n : ℕ) (xs ys : List Deed) → told k n (xs ++ ys) ≡ told k n xs ++ told k (n + length xs) ys
told_append k n [] ys = ap (λ (m : ℕ). told k m ys) (sym (add-zero n))
told_append k n (d ∷ xs) ys =
    told_first k n d (xs ++ ys)
    ∙ ap (λ (l : List (Event Seen ℕ)). told k n (d ∷ []) ++ l) (told_append k (suc n) xs ys)
    ∙ sym (append_assoc (told k n (d ∷ [])) (told k (suc n) xs) (told k (suc n + length xs) ys))
    ∙ ap₂ (λ (l : List (Event Seen ℕ)) (m : ℕ). l ++ told k m ys) (sym (told_first k n d xs)) (suc-add n (length xs) ∙ sym (add-suc n (length xs)))

-- ---- the deeds of a setting, for its own table

module _ {E : Type 0} (k : Kind) (made : E → Puts k) (named : E → Names k) where
  -- entries that are put
  puts_told : (n : ℕ) (es : List E) → told k n (map (λ e. puts k (seen_as k (made e))) es) ≡ map (as_seen k) (map (λ e. put e.0 (made e.1)) (from_on n es))
  puts_told n [] = refl
  puts_told n (e ∷ es) = rw (only_itself k) (ap (λ (l : List (Event Seen ℕ)). put n (seen_as k (made e)) ∷ l) (puts_told (suc n) es))

  -- and that go
  removes_told : ((e : E) → (seen_as k (made e)).key ≡ code_of k (named e)) → (n : ℕ) (es : List E)
      → told k n (map (λ e. removes k (seen_as k (made e)).key) es) ≡ map (as_seen k) (map (λ e. remove (named e.1)) (from_on n es))
  removes_told h n [] = refl
  removes_told h n (e ∷ es) = rw (only_itself k) (ap₂ (λ (c : ℕ) (l : List (Event Seen ℕ)). remove c ∷ l) (h e) (removes_told h (suc n) es))

  -- by operation
  listing_told : ((e : E) → (seen_as k (made e)).key ≡ code_of k (named e)) → (o : Operation) (n : ℕ) (es : List E)
      → told k n (listing k o (λ e. seen_as k (made e)) es) ≡ map (as_seen k) (events_by made named o (from_on (suc n) es))
  listing_told h Add n es = puts_told (suc n) es
  listing_told h Delete n es = removes_told h (suc n) es
  listing_told h Replace n es = rw (only_itself k) (ap (λ (l : List (Event Seen ℕ)). clear ∷ l) (puts_told (suc n) es))

-- DEEDS-TOLD: the events of its deeds are what is seen of its events
pub deeds_told : (s : Setting) (n : ℕ) → Spoken (kind s) → told (kind s) n (deeds s) ≡ map (as_seen (kind s)) (events_from n s)
deeds_told (group_contacts o f es) n h = listing_told GroupContacts (contact_of f) (λ e. e.address.0) (λ e. refl) o n es
deeds_told (individual_contacts o f es) n h = listing_told IndividualContacts (contact_of f) (λ e. e.address.0) (λ e. refl) o n es
deeds_told (lines o f es) n h = listing_told Lines (line_of f) (entry_key f) (λ e. refl) o n es
deeds_told (key t f) n h = absurd h
deeds_told (quick_texts o es) n h = listing_told QuickTexts (λ e. e) (λ e. e.index) (λ e. refl) o n es
deeds_told (home x) n h = absurd h
deeds_told (channels o ns) n h = listing_told Channels (λ c. c) (λ c. c) (λ e. refl) o n ns
deeds_told (system c) n h = absurd h
deeds_told (status_texts o es) n h = listing_told StatusTexts (λ e. e) (λ e. e.index - 32) (λ e. refl) o n es
deeds_told (group Add f s) n h = refl
deeds_told (group Delete f s) n h = refl
deeds_told (group Replace f s) n h = refl
deeds_told (individual Add f s) n h = refl
deeds_told (individual Delete f s) n h = refl
deeds_told (individual Replace f s) n h = refl
deeds_told (line_slot Add f s) n h = refl
deeds_told (line_slot Delete f s) n h = refl
deeds_told (line_slot Replace f s) n h = refl
deeds_told (last f x) n h = absurd h

-- ---- and for the other tables

-- one deed of another kind
other_doing : (j k : Kind) (n : ℕ) (o : Operation) (a : Seen) (ds : List Deed) → only j k ≡ false → told k n (doing j o a ∷ ds) ≡ told k (suc n) ds
other_doing j k n Add a ds h = rw h
other_doing j k n Delete a ds h = rw h
other_doing j k n Replace a ds h = rw h

-- what an operation of another kind does before its entries
other_opening : (j k : Kind) (n : ℕ) (o : Operation) (ds : List Deed) → only j k ≡ false → told k n (opening j o ∷ ds) ≡ told k (suc n) ds
other_opening j k n Add ds h = refl
other_opening j k n Delete ds h = refl
other_opening j k n Replace ds h = rw h

-- the deeds of entries
other_doings : {E : Type 0} (j k : Kind) (n : ℕ) (o : Operation) (seen : E → Seen) (es : List E) → only j k ≡ false → told k n (map (λ e. doing j o (seen e)) es) ≡ []
other_doings j k n o seen [] h = refl
other_doings j k n o seen (e ∷ es) h = other_doing j k n o (seen e) (map (λ e. doing j o (seen e)) es) h ∙ other_doings j k (suc n) o seen es h

-- all deeds of a list of entries of another kind
other_listing : {E : Type 0} (j k : Kind) (n : ℕ) (o : Operation) (seen : E → Seen) (es : List E) → only j k ≡ false → told k n (listing j o seen es) ≡ []
other_listing j k n o seen es h = other_opening j k n o (map (λ e. doing j o (seen e)) es) h ∙ other_doings j k (suc n) o seen es h

-- DEEDS-OTHERS: there are no events of its deeds for them
pub deeds_others : (s : Setting) (k : Kind) (n : ℕ) → only (kind s) k ≡ false → told k n (deeds s) ≡ []
deeds_others (group_contacts o f es) k n h = other_listing GroupContacts k n o (λ e. seen_as GroupContacts (contact_of f e)) es h
deeds_others (individual_contacts o f es) k n h = other_listing IndividualContacts k n o (λ e. seen_as IndividualContacts (contact_of f e)) es h
deeds_others (lines o f es) k n h = other_listing Lines k n o (λ e. seen_as Lines (line_of f e)) es h
deeds_others (key t f) k n h = refl
deeds_others (quick_texts o es) k n h = other_listing QuickTexts k n o (seen_as QuickTexts) es h
deeds_others (home x) k n h = refl
deeds_others (channels o ns) k n h = other_listing Channels k n o (seen_as Channels) ns h
deeds_others (system c) k n h = refl
deeds_others (status_texts o es) k n h = other_listing StatusTexts k n o (seen_as StatusTexts) es h
deeds_others (group o f s) k n h = other_doing Group k n o (seen_as Group (member_at f s)) [] h
deeds_others (individual o f s) k n h = other_doing Individual k n o (seen_as Individual (member_at f s)) [] h
deeds_others (line_slot o f s) k n h = other_doing LineSlot k n o (seen_as LineSlot (line_at f s)) [] h
deeds_others (last f x) k n h = refl

-- ---- the events of a setting

-- entries with numbers are the entries
bare_from : {E : Type 0} (n : ℕ) (es : List E) → bare (from_on n es) ≡ es
bare_from n [] = refl
bare_from {E} n (e ∷ es) = ap (λ (l : List E). e ∷ l) (bare_from (suc n) es)

-- EVENTS-ITS: they are the setting's
pub events_its : (n : ℕ) (s : Setting) → Its s (events_from n s)
events_its n (group_contacts o f es) = subst (λ (l : List _). Its (group_contacts o f l) (contact_events OfGroups o f (from_on (suc n) es))) (bare_from (suc n) es) (its_group_contacts (from_on (suc n) es))
events_its n (individual_contacts o f es) =
    subst (λ (l : List _). Its (individual_contacts o f l) (contact_events OfIndividuals o f (from_on (suc n) es))) (bare_from (suc n) es) (its_individual_contacts (from_on (suc n) es))
events_its n (lines o f es) = subst (λ (l : List Contact). Its (lines o f l) (line_events o f (from_on (suc n) es))) (bare_from (suc n) es) (its_lines (from_on (suc n) es))
events_its n (key t f) = its_key n
events_its n (quick_texts o es) = subst (λ (l : List Entry). Its (quick_texts o l) (quick_events o (from_on (suc n) es))) (bare_from (suc n) es) (its_quick_texts (from_on (suc n) es))
events_its n (home h) = its_home n
events_its n (channels o ns) = subst (λ (l : List ℕ). Its (channels o l) (channel_events o (from_on (suc n) ns))) (bare_from (suc n) ns) (its_channels (from_on (suc n) ns))
events_its n (system c) = its_system n
events_its n (status_texts o es) = subst (λ (l : List Entry). Its (status_texts o l) (status_events o (from_on (suc n) es))) (bare_from (suc n) es) (its_status_texts (from_on (suc n) es))
events_its n (group o f s) = its_group n
events_its n (individual o f s) = its_individual n
events_its n (line_slot o f s) = its_line_slot n
events_its n (last f h) = its_last n

-- ---- numbers

-- TOLD-RISING: the events of deeds have their deeds' numbers, which rise
pub told_rising : (k : Kind) (n : ℕ) (ds : List Deed) → Rising n (told k n ds)
told_rising k n [] = tt
told_rising k n (nothing ∷ ds) = rising_from n (suc n) (told k (suc n) ds) (omega arith) (told_rising k (suc n) ds)
told_rising k n (clears j ∷ ds) = go (only j k) (told_rising k (suc n) ds)
  where
    go : (b : Bool) → Rising (suc n) (told k (suc n) ds) → Rising n (cond b (clear ∷ told k (suc n) ds) (told k (suc n) ds))
    go true r = rising_from n (suc n) (told k (suc n) ds) (omega arith) r
    go false r = rising_from n (suc n) (told k (suc n) ds) (omega arith) r
told_rising k n (puts j a ∷ ds) = go (only j k) (told_rising k (suc n) ds)
  where
    go : (b : Bool) → Rising (suc n) (told k (suc n) ds) → Rising n (cond b (put n a ∷ told k (suc n) ds) (told k (suc n) ds))
    go true r = (omega arith, r)
    go false r = rising_from n (suc n) (told k (suc n) ds) (omega arith) r
told_rising k n (removes j c ∷ ds) = go (only j k) (told_rising k (suc n) ds)
  where
    go : (b : Bool) → Rising (suc n) (told k (suc n) ds) → Rising n (cond b (remove c ∷ told k (suc n) ds) (told k (suc n) ds))
    go true r = rising_from n (suc n) (told k (suc n) ds) (omega arith) r
    go false r = rising_from n (suc n) (told k (suc n) ds) (omega arith) r

-- SEEN-RISING: what is seen of events has their numbers
pub seen_rising : (k : Kind) (n : ℕ) (es : List (Does k)) → Rising n (map (as_seen k) es) → Rising n es
seen_rising k n [] r = tt
seen_rising k n (clear ∷ es) r = seen_rising k n es r
seen_rising k n (put m a ∷ es) r = (r.0, seen_rising k (suc m) es r.1)
seen_rising k n (remove j ∷ es) r = seen_rising k n es r
