-- The sentences of document 01 on room, on entries in order, and on what a setting leaves alone. Assumes nothing.
use Rattle.lists.proofs.Kit.{ℕ, ◌≤◌, ◌<◌, ◌≡◌, refl, ap, ◌∙◌, subst, ◌≢◌, ◌↔◌, ◌⊎◌, inl, inr, Bool, true, false, cond, List, [], ◌∷◌, ◌++◌, Option, none, some, option_some_ne_none, option_none_ne_some, option_some_injective, arith, eq-eqb, eqb, leb, length, replicate}
use Rattle.slots.proofs.Changes.{unless_fewer}
use Rattle.counted_lists.proofs.KeyedLists.{keyed_no_room, keyed_freed, last_no_room}
use Rattle.writing.specs.declared.Kind.{Kind}
use Rattle.writing.specs.declared.Kind.TheVariants.{GroupContacts, IndividualContacts, Lines, Key, QuickTexts, Home, Channels, System, StatusTexts, Group, Individual, LineSlot, Last}
use Rattle.writing.specs.declared.Operation.{Operation}
use Rattle.writing.specs.declared.Operation.TheVariants.{Add, Delete, Replace}
use Rattle.writing.specs.Settings.{Text, Entry, Setting, group_contacts, individual_contacts, lines, key, quick_texts, home, channels, system, status_texts, group, individual, line_slot, last, kind}
use Rattle.tables.specs.declared.limits.Limits.{Limits}
use Rattle.tables.specs.Apply.{and_then, in_turn, start_from, has_key, put_line, drop_line, quick_step, quick_after, status_step, status_after, put_channel, drop_channel, with_room, own_after, change, within, apply}
use Rattle.tables.specs.declared.limits.Texts.{Texts}
use Rattle.tables.specs.declared.limits.Texts.TheVariants.{Placed, Shared}
use Rattle.tables.specs.Texts.{text_sum}
use Rattle.tables.specs.Limits.{handheld, quick_places, status_places}
use Rattle.tables.specs.Tables.{Line, LineKey, line_key, Tables}
use Rattle.tables.proofs.Sentences.{Without, key_is_both}
use Rattle.tables.specs.Owns.{Own, own, mix, only, put_own}

-- ---- entries in order

-- an entry that has no room, after those that had
pub record Stuck {A T : Type 0} (step : A → T → Option T) (es : List A) (t : T) : Type 0 where
  pub done : List A
  pub entry : A
  pub rest : List A
  pub split : es ≡ done ++ entry ∷ rest
  pub table : T
  pub came : in_turn step done t ≡ some table
  pub full : step entry table ≡ none

module _ {A T : Type 0} (step : A → T → Option T) where
  -- "each entry in order": the first ones, and then the others
  pub turn_append : (a b : List A) (t : T) → in_turn step (a ++ b) t ≡ and_then (in_turn step a t) (in_turn step b)
  turn_append [] b t = refl
  turn_append (x ∷ a) b t = go (λ u. turn_append a b u) (step x t)
    where
      go : ((u : T) → in_turn step (a ++ b) u ≡ and_then (in_turn step a u) (in_turn step b)) → (o : Option T) → and_then o (in_turn step (a ++ b)) ≡ and_then (and_then o (in_turn step a)) (in_turn step b)
      go r none = refl
      go r (some u) = r u

  -- no room is no room at some entry
  turn_none : (es : List A) (t : T) → in_turn step es t ≡ none → Stuck step es t
  turn_none [] t e = absurd (option_some_ne_none t e)
  turn_none (x ∷ es) t e = go (λ u. turn_none es u) (step x t) refl e
    where
      go : ((u : T) → in_turn step es u ≡ none → Stuck step es u) → (o : Option T) → step x t ≡ o → and_then o (in_turn step es) ≡ none → Stuck step (x ∷ es) t
      go r none h q = record { done = []; entry = x; rest = es; split = refl; table = t; came = refl; full = h }
      go r (some u) h q =
          let s = r u q in
          record {
            done = x ∷ s.done;
            entry = s.entry;
            rest = s.rest;
            split = ap (λ (l : List A). x ∷ l) s.split;
            table = s.table;
            came = ap (λ (o : Option T). and_then o (in_turn step s.done)) h ∙ s.came;
            full = s.full;
          }

  -- NO-ROOM: "A setting has no room when, at some entry," the entry has none in the table as it is then
  pub no_room : (es : List A) (t : T) → (in_turn step es t ≡ none) ↔ Stuck step es t
  no_room es t = (
    turn_none es t,
    λ s. ap (λ (l : List A). in_turn step l t) s.split ∙ turn_append s.done (s.entry ∷ s.rest) t
        ∙ ap (λ (o : Option T). and_then o (in_turn step (s.entry ∷ s.rest))) s.came
        ∙ ap (λ (o : Option T). and_then o (in_turn step s.rest)) s.full,
  )

-- ---- "the table is then full and the entry needs a new place"

-- "Room: 32 line contacts, 64 channels"
pub room_is : (handheld.lines ≡ 32) × (handheld.channels ≡ 64)
room_is = (refl, refl)

-- a line has no room where the list is full and no line has its key
pub line_no_room : (room : ℕ) (l : Line) (ls : List Line) → length ls ≤ room → (put_line room l ls ≡ none) ↔ ((length ls ≡ room) × Without (line_key l) ls)
line_no_room = keyed_no_room line_key has_key key_is_both

-- a channel has no room where the list is full
pub channel_no_room : (room n : ℕ) (cs : List ℕ) → length cs ≤ room → (put_channel room n cs ≡ none) ↔ (length cs ≡ room)
channel_no_room = last_no_room

-- ---- "Room freed earlier in the same message is used."

-- after a line was deleted, any line has room
pub line_freed : (room : ℕ) (k : LineKey) (before : List Line) (x : Line) (after : List Line) → line_key x ≡ k → length (before ++ x ∷ after) ≤ room → (l : Line) → put_line room l (drop_line k (before ++ x ∷ after)) ≢ none
line_freed = keyed_freed line_key has_key key_is_both

-- after a channel was deleted, any channel has room
pub channel_freed : (room d : ℕ) (before after : List ℕ) → length (before ++ d ∷ after) ≤ room → (n : ℕ) → put_channel room n (drop_channel d (before ++ d ∷ after)) ≢ none
channel_freed room d before after h n e =
    let s : length (drop_channel d (before ++ d ∷ after)) < length (before ++ d ∷ after) = unless_fewer (λ c. eqb c d) before d after (eq-eqb d d refl) in
    let p = (channel_no_room room n (drop_channel d (before ++ d ∷ after)) (omega arith)).0 e in
    omega (arith, p)

-- ---- only lists can have no room

-- a quick text has its place
quick_has_room : (o : Operation) (e : Entry) (qs : List (Option Text)) → quick_step o e qs ≢ none
quick_has_room Add e qs h = option_some_ne_none _ h
quick_has_room Delete e qs h = option_some_ne_none _ h
quick_has_room Replace e qs h = option_some_ne_none _ h

-- a status text has its place
status_has_room : (o : Operation) (e : Entry) (ss : List (Option Text)) → status_step o e ss ≢ none
status_has_room Add e ss h = option_some_ne_none _ h
status_has_room Delete e ss h = option_some_ne_none _ h
status_has_room Replace e ss h = option_some_ne_none _ h

-- where each entry has room, all have
pub all_have_room : {A T : Type 0} (step : A → T → Option T) → ((a : A) (t : T) → step a t ≢ none) → (es : List A) (t : T) → in_turn step es t ≢ none
all_have_room step h es t e = let s = turn_none step es t e in h s.entry s.table s.full

-- a change where there is room
room_none : {A B : Type 0} (f : A → B) (o : Option A) → with_room f o ≡ none → o ≡ none
room_none f none e = refl
room_none f (some a) e = absurd (option_some_ne_none (f a) e)

-- a setting whose table is full is one of lines, of channels or of contacts; so one of slots always has room
pub no_room_kinds : (lim : Limits) (s : Setting) (t : Tables) → change lim s t ≡ none
    → (kind s ≡ Lines) ⊎ (kind s ≡ Channels) ⊎ (kind s ≡ GroupContacts) ⊎ (kind s ≡ IndividualContacts)
no_room_kinds lim (group_contacts o f es) t e = inr (inr (inl refl))
no_room_kinds lim (individual_contacts o f es) t e = inr (inr (inr refl))
no_room_kinds lim (lines o f es) t e = inl refl
no_room_kinds lim (key target f) t e = absurd (option_some_ne_none _ e)
no_room_kinds lim (quick_texts o es) t e =
    absurd (all_have_room (quick_step o) (quick_has_room o) es (start_from o (replicate quick_places none) t.quick) (room_none (put_own QuickTexts t) (quick_after o es t.quick) e))
no_room_kinds lim (home h) t e = absurd (option_some_ne_none _ e)
no_room_kinds lim (channels o ns) t e = inr (inl refl)
no_room_kinds lim (system s) t e = absurd (option_some_ne_none _ e)
no_room_kinds lim (status_texts o es) t e =
    absurd (all_have_room (status_step o) (status_has_room o) es (start_from o (replicate status_places none) t.status) (room_none (put_own StatusTexts t) (status_after o es t.status) e))
no_room_kinds lim (group o f s) t e = absurd (option_some_ne_none _ e)
no_room_kinds lim (individual o f s) t e = absurd (option_some_ne_none _ e)
no_room_kinds lim (line_slot o f s) t e = absurd (option_some_ne_none _ e)
no_room_kinds lim (last f h) t e = absurd (option_some_ne_none _ e)

-- ---- a setting changes its own table and no other

-- what was made where there was room was made of something
pub came : {A B : Type 0} (f : A → B) (o : Option A) (b : B) → with_room f o ≡ some b → (a : A) × (o ≡ some a) × (f a ≡ b)
came f none b e = absurd (option_none_ne_some b e)
came f (some a) b e = (a, refl, option_some_injective (f a) b e)

-- one table changed is that table taken from the tables changed
pub put_mixes : (k : Kind) (t : Tables) (x : Own k) → put_own k t x ≡ mix (only k) t (put_own k t x)
put_mixes GroupContacts t x = refl
put_mixes IndividualContacts t x = refl
put_mixes Lines t x = refl
put_mixes Key t x = refl
put_mixes QuickTexts t x = refl
put_mixes Home t x = refl
put_mixes Channels t x = refl
put_mixes System t x = refl
put_mixes StatusTexts t x = refl
put_mixes Group t x = refl
put_mixes Individual t x = refl
put_mixes LineSlot t x = refl
put_mixes Last t x = refl

-- t with the table of one kind as u has it
abbrev pub with_own : Kind → Tables → Tables → Tables
with_own k t u = mix (only k) t u

-- what is within an area is as it was
within_same : (x : Texts) (t u : Tables) → within x t ≡ some u → t ≡ u
within_same Placed t u e = option_some_injective t u e
within_same (Shared a) t u e = go (leb (text_sum t) a) e
  where
    go : (b : Bool) → cond b (some t) none ≡ some u → t ≡ u
    go true e = option_some_injective t u e
    go false e = absurd (option_none_ne_some u e)

-- APPLY-CHANGE: where there is room, a setting leaves what it changes the tables to
pub apply_change : (lim : Limits) (s : Setting) (t u : Tables) → apply lim s t ≡ some u → change lim s t ≡ some u
apply_change lim s t u e = go (change lim s t) e
  where
    go : (o : Option Tables) → and_then o (within lim.texts) ≡ some u → o ≡ some u
    go none e = absurd (option_none_ne_some u e)
    go (some v) e = ap some (within_same lim.texts v u e)

-- CHANGE-OWN: what a setting changes is its own table
pub change_own : (lim : Limits) (s : Setting) (t u : Tables) → change lim s t ≡ some u → u ≡ with_own (kind s) t u
change_own lim s t u e =
    let (x, _, p) = came (put_own (kind s) t) (own_after lim s (own (kind s) t)) u e in
    subst (λ v. v ≡ with_own (kind s) t v) p (put_mixes (kind s) t x)

-- OWN-TABLE: what a setting leaves is the tables before, with its own table changed
pub own_table : (lim : Limits) (s : Setting) (t u : Tables) → apply lim s t ≡ some u → u ≡ with_own (kind s) t u
own_table lim s t u e = change_own lim s t u (apply_change lim s t u e)
