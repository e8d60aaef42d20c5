-- PART RUNS: an exported part's settings, in turn, change the part's tables to what they were exported of, whatever was there; their texts' room aside. Assumes nothing.
use Rattle.lists.proofs.Kit.{ℕ, suc, ◌+◌, ◌-◌, ◌≤◌, ◌≡◌, refl, sym, ap, ◌∙◌, subst, ◌↔◌, Bool, true, List, [], ◌∷◌, ◌++◌, map, append-nil, Option, none, some, arith, length, set, take, drop, replicate, length-append, take-append-drop, append_snoc, set_at, get_or_at}
use Rattle.lists.proofs.Bytes.{all_bytes}
use Rattle.lists.specs.Every.{All}
use Rattle.counted_lists.specs.Counted.{put_keyed, Distinct}
use Rattle.counted_lists.proofs.KeyedLists.{keyed_new, others_without}
use Rattle.writing.specs.declared.Operation.TheVariants.{Add}
use Rattle.writing.specs.Canonical.{Fits, canonical, canonical_all}
use Rattle.writing.specs.Ranges.{text_limits, InRange}
use Rattle.writing.specs.Settings.{Text, Entry, Setting, unicode16}
use Rattle.writing.specs.Writing.{fields}
use Rattle.writing.proofs.CanonicalLaws.{canonical_written, plain_bytes}
use Rattle.tables.specs.declared.limits.Limits.{Limits}
use Rattle.tables.specs.declared.members.Members.{Members}
use Rattle.tables.specs.declared.members.Members.TheVariants.{OfGroups, OfIndividuals}
use Rattle.tables.specs.Allowed.{Allowed}
use Rattle.tables.specs.Apply.{and_then, in_turn, has_key, put_contact, with_room, quick_step, status_step, channel_step, change, apply}
use Rattle.tables.specs.Limits.{contact_places}
use Rattle.tables.specs.MemberKinds.{MemberIn, contact_key}
use Rattle.tables.specs.Tables.{Line, line_key, Tables}
use Rattle.writing.specs.declared.Kind.TheVariants as K
use Rattle.tables.specs.Owns.{put_own}
use Rattle.tables.proofs.ContactSentences.{has_number, key_is_number}
use Rattle.tables.proofs.Sentences.{key_is_both, channel_add, quick_add_free}
use Rattle.requests.specs.Judge.{done, step}
use Rattle.requests.specs.Requests.{Runs}
use Rattle.export.specs.declared.parts.Part.{Part}
use Rattle.export.specs.declared.parts.Part.TheVariants.{Lines, Fixed, QuickTexts, Channels, StatusTexts, Groups, Individuals, GroupContacts, IndividualContacts, LineSlots}
use Rattle.export_write.specs.ContactSettings.{contact_add}
use Rattle.export_write.specs.LineSettings.{line_add, line_slot_setting}
use Rattle.export_write.specs.EntrySettings.{entries, quick_add, slots}
use Rattle.export_write.specs.MemberWriters.{member_setting}
use Rattle.export.specs.Exported.{exported}
use Rattle.export.specs.Exportable.{Exportable}
use Rattle.restore.specs.Restored.{with_part, PlacesFor}
use Rattle.restore.proofs.Fitting.{AllReadable, exported_readable}

-- ---- steps in turn

-- a first step that had room, then the others
then_turn : {A T : Type 0} (next : A → T → Option T) (a : A) (l : List A) (t u : T) → next a t ≡ some u → in_turn next (a ∷ l) t ≡ in_turn next l u
then_turn next a l t u e = ap (λ o. and_then o (in_turn next l)) e

-- steps one after the other
turn_append : {A T : Type 0} (next : A → T → Option T) (a b : List A) (t : T) → in_turn next (a ++ b) t ≡ and_then (in_turn next a t) (in_turn next b)
turn_append next [] b t = refl
turn_append {T = T} next (x ∷ a) b t = go (next x t) (turn_append next a b)
  where
    go : (o : Option T) → ((u : T) → in_turn next (a ++ b) u ≡ and_then (in_turn next a u) (in_turn next b))
        → and_then o (in_turn next (a ++ b)) ≡ and_then (and_then o (in_turn next a)) (in_turn next b)
    go none h = refl
    go (some u) h = h u

-- settings that fit, are in range and have room in turn run to their end
turn_runs : (lim : Limits) (ss : List Setting) (u v : Tables) → All (Fits unicode16) ss → All (λ s. (left : ℕ) → InRange text_limits left s) ss
    → in_turn (apply lim) ss u ≡ some v → Runs unicode16 lim (length ss) u (canonical_all unicode16 ss) ss v []
turn_runs lim [] u v f r e = subst (λ (w : Tables). Runs unicode16 lim 0 u [] [] w []) (cc) done
turn_runs lim (s ∷ ss) u v f r e = go (apply lim s u) refl e (λ w. turn_runs lim ss w v f.1 r.1)
  where
    go : (o : Option Tables) → apply lim s u ≡ o → and_then o (in_turn (apply lim) ss) ≡ some v
        → ((w : Tables) → in_turn (apply lim) ss w ≡ some v → Runs unicode16 lim (length ss) w (canonical_all unicode16 ss) ss v [])
        → Runs unicode16 lim (suc (length ss)) u (canonical_all unicode16 (s ∷ ss)) (s ∷ ss) v []
    go none d h more = let z : ◌≡◌ {A = ℕ} 0 1 = cc in absurd (omega arith)
    go (some w) d h more =
        step {w = canonical unicode16 s} {s = s} refl (canonical_written unicode16 s f.0, all_bytes (canonical unicode16 s) (plain_bytes (fields unicode16 s))) (r.0 (length ss)) d (more w h)

-- ---- lists by a key

-- settings that add one entry each, of which each has a new key, put their entries to the end in turn
module _ {A K : Type 0} (key : A → K) (has : K → A → Bool) (decides : (k : K) (a : A) → (has k a ≡ true) ↔ (key a ≡ k)) (lim : Limits) (room : ℕ)
    (setting : A → Setting) (with_it : List A → Tables)
    (puts : (a : A) (ls : List A) → change lim (setting a) (with_it ls) ≡ with_room with_it (and_then (put_keyed (has (key a)) room a ls) some))
  where
    keyed_turn : (before after : List A) → Distinct key (before ++ after) → length before + length after ≤ room
        → in_turn (change lim) (map setting after) (with_it before) ≡ some (with_it (before ++ after))
    keyed_turn before [] d h = ap (λ ls. some (with_it ls)) (sym (append-nil before))
    keyed_turn before (a ∷ after) d h =
        let e : change lim (setting a) (with_it before) ≡ some (with_it (before ++ (a ∷ [])))
        = puts a before ∙ ap (λ o. with_room with_it (and_then o some)) (keyed_new key has decides room a before (others_without key before a after d).0 (omega arith)) in
        then_turn (change lim) (setting a) (map setting after) (with_it before) (with_it (before ++ (a ∷ []))) e
        ∙ keyed_turn (before ++ (a ∷ [])) after (subst (Distinct key) (sym (append_snoc before a after)) d) (omega (arith, length-append before (a ∷ [])))
        ∙ ap (λ ls. some (with_it ls)) (append_snoc before a after)

-- lines, whose key is IDtype and number
pub lines_turn : (lim : Limits) (u : Tables) (ls : List Line) → length ls ≤ lim.lines → Distinct line_key ls
    → in_turn (change lim) (map line_add ls) (put_own K.Lines u []) ≡ some (put_own K.Lines u ls)
lines_turn lim u ls h d = keyed_turn line_key has_key key_is_both lim lim.lines line_add (put_own K.Lines u) (λ l ls. refl) [] ls d (omega arith)

-- group and individual contacts, whose key is the address
contacts_turn : (w : Members) (lim : Limits) (with_it : List (MemberIn w) → Tables)
    → ((x : MemberIn w) (xs : List (MemberIn w)) → change lim (contact_add w x) (with_it xs) ≡ with_room with_it (and_then (put_contact w contact_places x xs) some))
    → (xs : List (MemberIn w)) → length xs ≤ contact_places → Distinct (contact_key w) xs → in_turn (change lim) (map (contact_add w) xs) (with_it []) ≡ some (with_it xs)
contacts_turn w lim with_it puts xs h d =
    keyed_turn (contact_key w) (has_number w) (key_is_number w) lim contact_places (contact_add w) with_it puts [] xs d (omega arith)

-- ---- texts

-- a step that puts an entry into the empty place of its index, less a base, puts a table's entries into its places
module _ (next : Entry → List (Option Text) → Option (List (Option Text))) (base : ℕ)
    (puts : (e : Entry) (before after : List (Option Text)) → e.index ≡ base + length before → next e (before ++ none ∷ after) ≡ some (before ++ some e.text ∷ after)) where
  texts_turn : (before l : List (Option Text)) (i : ℕ) → i ≡ base + length before → in_turn next (entries i l) (before ++ replicate (length l) none) ≡ some (before ++ l)
  texts_turn before [] i e = refl
  texts_turn before (none ∷ l) i e =
      ap (in_turn next (entries (suc i) l)) (sym (append_snoc before none (replicate (length l) none)))
      ∙ texts_turn (before ++ (none ∷ [])) l (suc i) (omega (arith, length-append before (none ∷ [])))
      ∙ ap some (append_snoc before none l)
  texts_turn before (some us ∷ l) i e =
      then_turn next (record { index = i; text = us }) (entries (suc i) l) (before ++ none ∷ replicate (length l) none) (before ++ some us ∷ replicate (length l) none)
      (puts (record { index = i; text = us }) before (replicate (length l) none) e)
      ∙ ap (in_turn next (entries (suc i) l)) (sym (append_snoc before (some us) (replicate (length l) none)))
      ∙ texts_turn (before ++ (some us ∷ [])) l (suc i) (omega (arith, length-append before (some us ∷ [])))
      ∙ ap some (append_snoc before (some us) l)

  -- all of them, into an empty table
  texts_full : (l : List (Option Text)) (n : ℕ) → length l ≡ n → in_turn next (entries base l) (replicate n none) ≡ some l
  texts_full l n h = ap (λ k. in_turn next (entries base l) (replicate k none)) (sym h) ∙ texts_turn [] l base (omega arith)

-- quick texts: an empty table has the empty place
quick_puts : (e : Entry) (before after : List (Option Text)) → e.index ≡ 0 + length before
    → quick_step Add e (before ++ none ∷ after) ≡ some (before ++ some e.text ∷ after)
quick_puts e before after h =
    let n : length before ≡ e.index = omega arith in
    quick_add_free e (before ++ none ∷ after) (get_or_at before none after none e.index n) ∙ ap some (set_at before none after (some e.text) e.index n)

-- settings of one add each do as one setting of them all
quick_adds : (lim : Limits) (u : Tables) (es : List Entry) (q : List (Option Text))
    → in_turn (change lim) (map quick_add es) (put_own K.QuickTexts u q) ≡ with_room (put_own K.QuickTexts u) (in_turn (quick_step Add) es q)
quick_adds lim u [] q = refl
quick_adds lim u (e ∷ es) q = quick_adds lim u es _

quick_cut : (lim : Limits) (u : Tables) (es : List Entry) (o : Option (List (Option Text)))
    → and_then (with_room (put_own K.QuickTexts u) o) (in_turn (change lim) (map quick_add es)) ≡ with_room (put_own K.QuickTexts u) (and_then o (in_turn (quick_step Add) es))
quick_cut lim u es none = refl
quick_cut lim u es (some q) = quick_adds lim u es q

-- status texts: code 32 has the first place
status_puts : (e : Entry) (before after : List (Option Text)) → e.index ≡ 32 + length before
    → status_step Add e (before ++ none ∷ after) ≡ some (before ++ some e.text ∷ after)
status_puts e before after h = ap some (set_at before none after (some e.text) (e.index - 32) (omega arith))

-- ---- channels

-- each goes to the end
pub channels_turn : (room : ℕ) (before after : List ℕ) → length before + length after ≤ room → in_turn (channel_step room Add) after before ≡ some (before ++ after)
channels_turn room before [] h = ap some (sym (append-nil before))
channels_turn room before (n ∷ after) h =
    then_turn (channel_step room Add) n after before (before ++ (n ∷ [])) (channel_add room n before (omega arith))
    ∙ channels_turn room (before ++ (n ∷ [])) after (omega (arith, length-append before (n ∷ [])))
    ∙ ap some (append_snoc before n after)

-- ---- slots

-- settings of slots, which put what they say into the place of their index, fill a table of as many places
module _ {A : Type 0} (lim : Limits) (setting : ℕ → Option A → Setting) (with_it : List (Option A) → Tables)
    (empties : (i : ℕ) (q : List (Option A)) → change lim (setting i none) (with_it q) ≡ some (with_it (set q i none)))
    (fills : (i : ℕ) (x : A) (q : List (Option A)) → change lim (setting i (some x)) (with_it q) ≡ some (with_it (set q i (some x))))
  where
    puts : (i : ℕ) (o : Option A) (q : List (Option A)) → change lim (setting i o) (with_it q) ≡ some (with_it (set q i o))
    puts i none q = empties i q
    puts i (some x) q = fills i x q

    slots_turn : (before rest l : List (Option A)) (i : ℕ) → length before ≡ i → length rest ≡ length l
        → in_turn (change lim) (slots setting i l) (with_it (before ++ rest)) ≡ some (with_it (before ++ l))
    slots_turn before [] [] i e h = refl
    slots_turn before [] (x ∷ l) i e h = absurd (omega arith)
    slots_turn before (y ∷ rest) [] i e h = absurd (omega arith)
    slots_turn before (y ∷ rest) (x ∷ l) i e h =
        then_turn (change lim) (setting i x) (slots setting (suc i) l) (with_it (before ++ y ∷ rest)) (with_it (before ++ x ∷ rest))
        (puts i x (before ++ y ∷ rest) ∙ ap (λ q. some (with_it q)) (set_at before y rest x i e))
        ∙ ap (λ q. in_turn (change lim) (slots setting (suc i) l) (with_it q)) (sym (append_snoc before x rest))
        ∙ slots_turn (before ++ (x ∷ [])) rest l (suc i) (omega (arith, length-append before (x ∷ []))) (omega arith)
        ∙ ap (λ q. some (with_it q)) (append_snoc before x l)

-- ---- the parts

module _ (from to : Limits) (t u : Tables) (ok : Allowed from t) (old : Allowed to u) where
  -- PART TURN: the settings of a part that has places, in turn, change the part's tables to those that t has
  pub part_turn : (p : Part) → PlacesFor to t p → in_turn (change to) (exported p t) u ≡ some (with_part p t u)
  part_turn Lines h = lines_turn to u t.lines h ok.distinct
  part_turn Fixed h = refl
  part_turn QuickTexts h =
      let es : List Entry = entries 0 t.quick in
      quick_cut to u (drop 63 es) (in_turn (quick_step Add) (take 63 es) (replicate 64 none))
      ∙ ap (with_room (put_own K.QuickTexts u))
      (sym (turn_append (quick_step Add) (take 63 es) (drop 63 es) (replicate 64 none))
      ∙ ap (λ l. in_turn (quick_step Add) l (replicate 64 none)) (take-append-drop 63 es) ∙ texts_full (quick_step Add) 0 quick_puts t.quick 64 ok.quick.0)
  part_turn Channels h = ap (λ o. and_then (with_room (put_own K.Channels u) o) some) (channels_turn to.channels [] t.channels (omega (arith, h)))
  part_turn StatusTexts h = ap (λ o. and_then (with_room (put_own K.StatusTexts u) o) some) (texts_full (status_step Add) 32 status_puts t.status 96 ok.status.0)
  part_turn Groups h =
      slots_turn to (member_setting OfGroups) (put_own K.Group u) (λ i q. refl) (λ i x q. refl) [] u.groups t.groups 0 refl
      (old.groups.0 ∙ sym ok.groups.0)
  part_turn Individuals h =
      slots_turn to (member_setting OfIndividuals) (put_own K.Individual u) (λ i q. refl) (λ i x q. refl) [] u.individuals t.individuals 0 refl
      (old.individuals.0 ∙ sym ok.individuals.0)
  part_turn GroupContacts h =
      contacts_turn OfGroups to (put_own K.GroupContacts u) (λ x xs. refl) t.group_contacts ok.group_contacts.0 ok.distinct_groups
  part_turn IndividualContacts h =
      contacts_turn OfIndividuals to (put_own K.IndividualContacts u) (λ x xs. refl) t.individual_contacts ok.individual_contacts.0 ok.distinct_individuals
  part_turn LineSlots h =
      slots_turn to line_slot_setting (put_own K.LineSlot u) (λ i q. refl) (λ i x q. refl) [] u.line_slots t.line_slots 0 refl
      (old.line_slots.0 ∙ sym ok.line_slots.0)

  -- PART RUNS: where they have room in turn, they run to their end over their canonical writing
  pub part_runs : Exportable from → (p : Part) → in_turn (apply to) (exported p t) u ≡ some (with_part p t u)
      → Runs unicode16 to (length (exported p t)) u (canonical_all unicode16 (exported p t)) (exported p t) (with_part p t u) []
  part_runs x p turn =
      let r : AllReadable _ (exported p t) = exported_readable from x t ok p in
      turn_runs to (exported p t) u (with_part p t u) r.fits r.ranged turn
