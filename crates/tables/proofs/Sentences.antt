-- The sentences of document 01, "What each operation does", each as a law of the definitions. Assumes nothing.
use Rattle.lists.proofs.Kit.{ℕ, ◌-◌, ◌≤◌, ◌<◌, ◌≡◌, refl, sym, ap, ◌∙◌, ◌≢◌, ◌↔◌, ◌⊎◌, inl, inr, Bool, true, false, true≢false, List, [], ◌∷◌, ◌++◌, head-eq_of_cons-eq, tail-eq_of_cons-eq, Option, none, some, eq-eqb, eqb-true, ne_eqb, eqb-false, eqb, length, get_or, set, replicate, length-set, get_or-set_same, get_or-set_other, set-get_or}
use Rattle.lists.specs.Every.{All}
use Rattle.lists.proofs.Every.{all_turn}
use Rattle.slots.proofs.Changes.{unless_append, unless_gone}
use Rattle.slots.proofs.Runs.{same_are, same_refl}
use Rattle.counted_lists.specs.Counted as Keys
use Rattle.counted_lists.proofs.KeyedLists.{keyed_new, keyed_known, drop_known, drop_absent, last_room}
use Rattle.writing.specs.declared.GroupFlags.{GroupFlags}
use Rattle.writing.specs.declared.HomeNumbers.{HomeNumbers}
use Rattle.writing.specs.declared.IndividualFlags.{IndividualFlags}
use Rattle.writing.specs.declared.KeyFlags.{KeyFlags}
use Rattle.writing.specs.declared.KeyTarget.{KeyTarget}
use Rattle.writing.specs.declared.LastFlags.{LastFlags}
use Rattle.writing.specs.declared.LineFlags.{LineFlags}
use Rattle.writing.specs.declared.Operation.{Operation}
use Rattle.writing.specs.declared.Operation.TheVariants.{Add, Delete, Replace}
use Rattle.writing.specs.declared.SystemCode.{SystemCode}
use Rattle.plan.specs.declared.numbers.GroupAddress.{GroupAddress}
use Rattle.plan.specs.declared.numbers.IndividualAddress.{IndividualAddress}
use Rattle.writing.specs.Settings.{Text, Contact, Entry, Slot, Hash, lines, key, quick_texts, home, channels, system, status_texts, group, individual, last}
use Rattle.writing.specs.Writing.{bit}
use Rattle.tables.specs.declared.limits.Limits.{Limits}
use Rattle.tables.specs.Apply.{start_from, same_key, has_key, line_of, entry_key, line_step, lines_after, quick_step, quick_after, status_step, status_after, drop_channel, channel_step, channels_after, change}
use Rattle.tables.specs.Limits.{quick_places, status_places}
use Rattle.tables.specs.Tables.{Line, LineKey, line_key, Tables}
use Rattle.writing.specs.declared.Kind.TheVariants.{Lines, Key, QuickTexts, Home, Channels, System, StatusTexts, Group, Individual, Last}
use Rattle.tables.specs.Owns.{put_own}
use Rattle.tables.proofs.EntryCodes.{bit_one}

-- ---- "The identity of a line is its IDtype together with its digits."

-- KEY-IS-BOTH: a line has the key that its IDtype and its digits are
pub key_is_both : (k : LineKey) (l : Line) → (has_key k l ≡ true) ↔ (line_key l ≡ k)
key_is_both k l = (
  λ e.
      let q = same_are (bit l.flags.pabx ∷ l.number) (bit k.pabx ∷ k.number) e in
      let b = bit_one l.flags.pabx k.pabx (head-eq_of_cons-eq q) in
      let d = tail-eq_of_cons-eq q in
      (λ i. record { pabx = b i; number = d i }),
  λ e. ap (λ (j : LineKey). same_key j k) e ∙ same_refl (bit k.pabx ∷ k.number),
)

-- no line has the key k
abbrev pub Without : LineKey → List Line → Type 0
Without k ls = Keys.Without line_key k ls

-- the first line with the key k, and what stands before and after it
pub record Known (k : LineKey) (ls : List Line) : Type 0 where
  pub before : List Line
  pub line : Line
  pub after : List Line
  pub split : ls ≡ before ++ line ∷ after
  pub is : line_key line ≡ k
  pub first : Without k before

-- a key is known or new
pub known_or_new : (k : LineKey) (ls : List Line) → Known k ls ⊎ Without k ls
known_or_new k [] = inr tt
known_or_new k (l ∷ ls) = go (has_key k l) refl (known_or_new k ls)
  where
    go : (b : Bool) → has_key k l ≡ b → Known k ls ⊎ Without k ls → Known k (l ∷ ls) ⊎ Without k (l ∷ ls)
    go true h r = inl (record { before = []; line = l; after = ls; split = refl; is = (key_is_both k l).0 h; first = tt })
    go false h (inl r) =
        inl (record {
          before = l ∷ r.before;
          line = r.line;
          after = r.after;
          split = ap (λ (x : List Line). l ∷ x) r.split;
          is = r.is;
          first = (λ e. true≢false (sym ((key_is_both k l).1 e) ∙ h), r.first);
        })
    go false h (inr r) = inr (λ e. true≢false (sym ((key_is_both k l).1 e) ∙ h), r)

module _ (room : ℕ) (f : LineFlags) (e : Contact) where
  -- "Add puts a new key at the end"
  pub line_add_new : (ls : List Line) → Without (entry_key f e) ls → length ls < room → line_step room Add f e ls ≡ some (ls ++ (line_of f e ∷ []))
  line_add_new = keyed_new line_key has_key key_is_both room (line_of f e)

  -- "and overwrites a known one in its place, flags included"; the others stay, and a full list has room for it
  pub line_add_known : (before : List Line) (l : Line) (after : List Line) → Without (entry_key f e) before → line_key l ≡ entry_key f e → length (before ++ l ∷ after) ≤ room → line_step room Add f e (before ++ l ∷ after) ≡ some (before ++ line_of f e ∷ after)
  line_add_known = keyed_known line_key has_key key_is_both room (line_of f e)

  -- "Delete closes the gap": the others keep their order
  pub line_delete : (before : List Line) (l : Line) (after : List Line) → Without (entry_key f e) before → line_key l ≡ entry_key f e → Without (entry_key f e) after → line_step room Delete f e (before ++ l ∷ after) ≡ some (before ++ after)
  line_delete before l after h n k = ap some (drop_known line_key has_key key_is_both (entry_key f e) before l after h n k)

  -- "Deleting what isn't there does nothing"
  pub line_delete_absent : (ls : List Line) → Without (entry_key f e) ls → line_step room Delete f e ls ≡ some ls
  line_delete_absent ls h = ap some (drop_absent line_key has_key key_is_both (entry_key f e) ls h)

-- ---- a place of an indexed table

-- ps is os with o in place k
pub record Changed {A : Type 0} (os : List (Option A)) (k : ℕ) (o : Option A) (ps : List (Option A)) : Type 0 where
  pub there : get_or ps k none ≡ o
  pub others : (j : ℕ) → j ≢ k → get_or ps j none ≡ get_or os j none
  pub many : length ps ≡ length os

-- what is put in a place stands there, and the other places are as before
pub place_changed : {A : Type 0} (os : List (Option A)) (k : ℕ) (o : Option A) → k < length os → Changed os k o (set os k o)
place_changed os k o h = record { there = get_or-set_same os k o none h; others = λ j n. get_or-set_other os k j o none n; many = length-set os k o }

-- an empty place that is emptied is as before
pub place_empty : {A : Type 0} (os : List (Option A)) (k : ℕ) → get_or os k none ≡ none → set os k none ≡ os
place_empty os k h = ap (set os k) (sym h) ∙ set-get_or os k none

-- ---- "Quick texts: add to an index that has a text does nothing."

module _ (e : Entry) (qs : List (Option Text)) where
  -- the table is as before
  pub quick_add_used : (us : Text) → get_or qs e.index none ≡ some us → quick_step Add e qs ≡ some qs
  quick_add_used us h = rw h (ap some (ap (set qs e.index) (sym h) ∙ set-get_or qs e.index none))

  -- an add to a free index puts the text there
  pub quick_add_free : get_or qs e.index none ≡ none → quick_step Add e qs ≡ some (set qs e.index (some e.text))
  quick_add_free h = rw h

  -- a delete empties the index, whatever text is sent
  pub quick_delete : quick_step Delete e qs ≡ some (set qs e.index none)
  quick_delete = refl

  -- "Deleting what isn't there does nothing"
  pub quick_delete_absent : get_or qs e.index none ≡ none → quick_step Delete e qs ≡ some qs
  quick_delete_absent h = ap some (place_empty qs e.index h)

-- ---- "Status texts and slots: add overwrites."

module _ (e : Entry) (ss : List (Option Text)) where
  -- whatever was there
  pub status_add : status_step Add e ss ≡ some (set ss (e.index - 32) (some e.text))
  status_add = refl

  -- a delete empties the code's place, whatever text is sent
  pub status_delete : status_step Delete e ss ≡ some (set ss (e.index - 32) none)
  status_delete = refl

  -- "Deleting what isn't there does nothing"
  pub status_delete_absent : get_or ss (e.index - 32) none ≡ none → status_step Delete e ss ≡ some ss
  status_delete_absent h = ap some (place_empty ss (e.index - 32) h)

-- a group slot
module _ (lim : Limits) (f : GroupFlags) (s : Slot GroupAddress) (t : Tables) where
  -- whatever was there
  pub group_add : change lim (group Add f s) t ≡ some (put_own Group t (set t.groups s.index (some (record { flags = f; address = s.address; text = s.text }))))
  group_add = refl

  -- "In a D1 or D2 delete only the index counts"
  pub group_delete : change lim (group Delete f s) t ≡ some (put_own Group t (set t.groups s.index none))
  group_delete = refl

  -- "Deleting what isn't there does nothing"
  pub group_delete_absent : get_or t.groups s.index none ≡ none → change lim (group Delete f s) t ≡ some t
  group_delete_absent h = ap (λ x. some (put_own Group t x)) (place_empty t.groups s.index h)

-- an individual slot
module _ (lim : Limits) (f : IndividualFlags) (s : Slot IndividualAddress) (t : Tables) where
  -- whatever was there
  pub individual_add : change lim (individual Add f s) t ≡ some (put_own Individual t (set t.individuals s.index (some (record { flags = f; address = s.address; text = s.text }))))
  individual_add = refl

  -- "In a D1 or D2 delete only the index counts"
  pub individual_delete : change lim (individual Delete f s) t ≡ some (put_own Individual t (set t.individuals s.index none))
  individual_delete = refl

  -- "Deleting what isn't there does nothing"
  pub individual_delete_absent : get_or t.individuals s.index none ≡ none → change lim (individual Delete f s) t ≡ some t
  individual_delete_absent h = ap (λ x. some (put_own Individual t x)) (place_empty t.individuals s.index h)

-- ---- "Channels: add always appends, so repeats are kept; delete removes every match."

module _ (room n : ℕ) where
  -- add appends, whether or not the channel is there already
  pub channel_add : (cs : List ℕ) → length cs < room → channel_step room Add n cs ≡ some (cs ++ (n ∷ []))
  channel_add = last_room room n

  -- delete removes every match
  pub channel_delete_all : (cs : List ℕ) → All (λ c. c ≢ n) (drop_channel n cs)
  channel_delete_all cs = all_turn (λ c. eqb c n ≡ false) (λ c. c ≢ n) (λ c h. eqb-false c n h) (drop_channel n cs) (unless_gone (λ c. eqb c n) cs)

  -- a match between others is gone, wherever it stands
  pub channel_delete_match : (before after : List ℕ) → drop_channel n (before ++ n ∷ after) ≡ drop_channel n before ++ drop_channel n after
  channel_delete_match before after =
      let s : drop_channel n (n ∷ after) ≡ drop_channel n after = rw (eq-eqb n n refl) in
      unless_append (λ c. eqb c n) before (n ∷ after) ∙ ap (λ (l : List ℕ). drop_channel n before ++ l) s

  -- and every other channel stays where it stands
  pub channel_delete_other : (before : List ℕ) (c : ℕ) (after : List ℕ) → c ≢ n → drop_channel n (before ++ c ∷ after) ≡ drop_channel n before ++ c ∷ drop_channel n after
  channel_delete_other before c after h =
      let s : drop_channel n (c ∷ after) ≡ c ∷ drop_channel n after = rw (ne_eqb c n h) in
      unless_append (λ c. eqb c n) before (c ∷ after) ∙ ap (λ (l : List ℕ). drop_channel n before ++ l) s

  -- "Deleting what isn't there does nothing"
  pub channel_delete_absent : (cs : List ℕ) → All (λ c. c ≢ n) cs → channel_step room Delete n cs ≡ some cs
  channel_delete_absent cs h = ap some (drop_absent (λ c. c) (λ d c. eqb c d) (λ d c. (eqb-true c d, eq-eqb c d)) n cs h)

-- ---- "Replace empties the table, then adds each entry in order."

-- line contacts: what was there before does not matter
pub lines_replace : (room : ℕ) (f : LineFlags) (es : List Contact) (ls : List Line) → lines_after room Replace f es ls ≡ lines_after room Add f es []
lines_replace room f es ls = refl

-- quick texts
pub quick_replace : (es : List Entry) (qs : List (Option Text)) → quick_after Replace es qs ≡ quick_after Add es (replicate quick_places none)
quick_replace es qs = refl

-- status texts
pub status_replace : (es : List Entry) (ss : List (Option Text)) → status_after Replace es ss ≡ status_after Add es (replicate status_places none)
status_replace es ss = refl

-- channels
pub channels_replace : (room : ℕ) (ns cs : List ℕ) → channels_after room Replace ns cs ≡ channels_after room Add ns []
channels_replace room ns cs = refl

-- ---- "Count 0 is allowed."

-- an add or a delete with no entries changes nothing, and a replace empties the table
module _ (lim : Limits) (t : Tables) where
  -- line contacts
  pub lines_count_0 : (o : Operation) (f : LineFlags) → change lim (lines o f []) t ≡ some (start_from o (put_own Lines t []) t)
  lines_count_0 Add f = refl
  lines_count_0 Delete f = refl
  lines_count_0 Replace f = refl

  -- quick texts
  pub quick_count_0 : (o : Operation) → change lim (quick_texts o []) t ≡ some (start_from o (put_own QuickTexts t (replicate quick_places none)) t)
  quick_count_0 Add = refl
  quick_count_0 Delete = refl
  quick_count_0 Replace = refl

  -- status texts
  pub status_count_0 : (o : Operation) → change lim (status_texts o []) t ≡ some (start_from o (put_own StatusTexts t (replicate status_places none)) t)
  status_count_0 Add = refl
  status_count_0 Delete = refl
  status_count_0 Replace = refl

  -- channels
  pub channels_count_0 : (o : Operation) → change lim (channels o []) t ≡ some (start_from o (put_own Channels t []) t)
  channels_count_0 Add = refl
  channels_count_0 Delete = refl
  channels_count_0 Replace = refl

  -- ---- "CB, CD and CF overwrite."

  -- the emergency key
  pub key_overwrites : (target : KeyTarget) (f : KeyFlags) → change lim (key target f) t ≡ some (put_own Key t (record { target = target; flags = f }))
  key_overwrites target f = refl

  -- the home numbers
  pub home_overwrites : (h : HomeNumbers) → change lim (home h) t ≡ some (put_own Home t h)
  home_overwrites h = refl

  -- the system code
  pub system_overwrites : (s : SystemCode) → change lim (system s) t ≡ some (put_own System t s)
  system_overwrites s = refl

  -- "After each taken request the hash kept is that request's own": FF's hash is kept
  pub hash_kept : (f : LastFlags) (h : Hash) → change lim (last f h) t ≡ some (put_own Last t h)
  hash_kept f h = refl
