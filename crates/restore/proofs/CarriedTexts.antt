-- CARRIED TEXTS: a setting adds at most the texts that it carries, so settings have room in turn where all that they carry has. Assumes nothing.
use Rattle.lists.proofs.Kit.{ℕ, zero, suc, ◌+◌, ◌*◌, ◌≤◌, ◌≡◌, refl, sym, ap, ◌∙◌, subst, Bool, true, false, cond, List, [], ◌∷◌, ◌++◌, map, Option, none, some, option_some_injective, arith, ltb, length, get_or, set, replicate, ◌-◌}
use Rattle.slots.specs.Slots.{Present, unless, index_of, put_at}
use Rattle.writing.specs.declared.Kind.{Kind}
use Rattle.writing.specs.declared.Operation.{Operation}
use Rattle.writing.specs.declared.Operation.TheVariants.{Add, Delete, Replace}
use Rattle.writing.specs.Settings.{Text, Entry, Setting, group_contacts, individual_contacts, lines, key, quick_texts, home, channels, system, status_texts, group, individual, line_slot, last, kind, texts}
use Rattle.tables.specs.declared.limits.Limits.{Limits}
use Rattle.tables.specs.Apply.{and_then, in_turn, start_from, keyed_step, line_of, contact_of, if_absent, quick_step, status_step, slot_after, channels_after, own_after, change, apply}
use Rattle.tables.specs.Limits.{quick_places, status_places, contact_places}
use Rattle.tables.specs.Owns.{Own, own, put_own}
use Rattle.tables.specs.Tables.{Tables}
use Rattle.tables.proofs.RoomSentences.{came}
use Rattle.tables.specs.Texts.{rows, row_texts, present, units_of, text_sum, TextRoom, Passes}
use Rattle.shared_texts.proofs.Sums.{sum_put, size_part}
use Rattle.shared_texts.proofs.RoomLaws.{then_some, apply_exactly, freed, turn_change}
use Rattle.restore.specs.Restored.{carried}
use Rattle.restore.proofs.TextRooms.{less_room, not_both}

-- settings, and then others
pub carried_append : (a b : List Setting) → carried (a ++ b) ≡ carried a + carried b
carried_append [] b = omega arith
carried_append (s ∷ a) b = omega (arith, carried_append a b)

-- ---- entries in turn

-- what is there has Q too
present_turn : {T : Type 0} (P Q : T → Type 0) → ((t : T) → P t → Q t) → (o : Option T) → Present P o → Present Q o
present_turn P Q h none p = tt
present_turn P Q h (some t) p = h t p

-- what anything has
present_any : {T : Type 0} (P : T → Type 0) → ((t : T) → P t) → (o : Option T) → Present P o
present_any P h none = tt
present_any P h (some t) = h t

-- steps that add at most their text each add at most all their texts
module _ {A T : Type 0} (size : T → ℕ) (text : A → Text) (step : A → T → Option T)
    (each : (a : A) (t : T) → Present (λ (u : T). size u ≤ size t + length (text a)) (step a t)) where
  turn_adds : (l : List A) (t : T) → Present (λ (u : T). size u ≤ size t + units_of (map text l)) (in_turn step l t)
  turn_adds [] t = omega arith
  turn_adds (a ∷ l) t = go (step a t) (each a t) (turn_adds l)
    where
      go : (o : Option T) → Present (λ (u : T). size u ≤ size t + length (text a)) o
          → ((u : T) → Present (λ (v : T). size v ≤ size u + units_of (map text l)) (in_turn step l u))
          → Present (λ (v : T). size v ≤ size t + units_of (map text (a ∷ l))) (and_then o (in_turn step l))
      go none h more = tt
      go (some u) h more = present_turn _ _ (λ v q. omega (arith, q, h)) (in_turn step l u) (more u)

  -- of a table that a replace empties first, too
  after_adds : (empty : T) → size empty ≡ 0 → (o : Operation) (l : List A) (t : T)
      → Present (λ (u : T). size u ≤ size t + units_of (map text l)) (in_turn step l (start_from o empty t))
  after_adds empty z Add l t = turn_adds l t
  after_adds empty z Delete l t = turn_adds l t
  after_adds empty z Replace l t = present_turn _ _ (λ v q. omega (arith, q, z)) (in_turn step l empty) (turn_adds l empty)

-- ---- one entry

module _ {A : Type 0} (text : A → Text) where
  -- the units of a table's texts
  abbrev units : List (Option A) → ℕ
  units os = units_of (present (rows text os))

  -- a list in which an entry was put
  put_adds : (k : ℕ) (a : A) (ls : List A) → units (map some (put_at k a ls)) ≤ units (map some ls) + length (text a)
  put_adds k a [] = omega arith
  put_adds zero a (x ∷ ls) = omega arith
  put_adds (suc k) a (x ∷ ls) = omega (arith, put_adds k a ls)

  -- a list from which entries were taken
  drop_adds : (p : A → Bool) (ls : List A) → units (map some (unless p ls)) ≤ units (map some ls)
  drop_adds p [] = omega arith
  drop_adds p (x ∷ ls) = by (p x) (drop_adds p ls)
    where
      by : (b : Bool) → units (map some (unless p ls)) ≤ units (map some ls) → units (map some (cond b (unless p ls) (x ∷ unless p ls))) ≤ length (text x) + units (map some ls)
      by true h = omega (arith, h)
      by false h = omega (arith, h)

  -- a list that an entry was put in where it had room
  if_put : (b : Bool) (ls ms : List A) (n : ℕ) → units (map some ms) ≤ units (map some ls) + n
      → Present (λ (ms : List A). units (map some ms) ≤ units (map some ls) + n) (cond b (some ms) none)
  if_put true ls ms n h = h
  if_put false ls ms n h = tt

  -- a list by a key
  keyed_adds : (same : A → A → Bool) (room : ℕ) (o : Operation) (a : A) (ls : List A)
      → Present (λ (ms : List A). units (map some ms) ≤ units (map some ls) + length (text a)) (keyed_step same room o a ls)
  keyed_adds same room Add a ls = if_put (ltb (index_of (same a) ls) room) ls _ _ (put_adds (index_of (same a) ls) a ls)
  keyed_adds same room Delete a ls = omega (arith, drop_adds (same a) ls)
  keyed_adds same room Replace a ls = if_put (ltb (index_of (same a) ls) room) ls _ _ (put_adds (index_of (same a) ls) a ls)

  -- the units of a place and of those behind it
  units_cons : (o : Option A) (os : List (Option A)) → units (o ∷ os) ≡ units (o ∷ []) + units os
  units_cons none os = omega arith
  units_cons (some a) os = omega arith

  -- a place that was filled or emptied
  set_adds : (os : List (Option A)) (i : ℕ) (o : Option A) → units (set os i o) ≤ units os + units (o ∷ [])
  set_adds [] i o = omega arith
  set_adds (x ∷ os) zero o = omega (arith, units_cons o os, units_cons x os)
  set_adds (x ∷ os) (suc i) o = omega (arith, units_cons x (set os i o), units_cons x os, set_adds os i o)

  -- a slot
  slot_adds : (o : Operation) (a : A) (os : List (Option A)) (i : ℕ) → units (set os i (slot_after o a)) ≤ units os + units_of (text a ∷ [])
  slot_adds Add a os i = set_adds os i (some a)
  slot_adds Delete a os i = omega (arith, set_adds os i none)
  slot_adds Replace a os i = set_adds os i (some a)

-- a quick text, which an index that has one does not take
quick_adds : (os : List (Option Text)) (i : ℕ) (us : Text) → units (λ vs. vs) (set os i (if_absent (get_or os i none) us)) ≤ units (λ vs. vs) os + length us
quick_adds [] i us = omega arith
quick_adds (none ∷ os) zero us = omega arith
quick_adds (some vs ∷ os) zero us = omega arith
quick_adds (o ∷ os) (suc i) us = omega (arith, units_cons (λ vs. vs) o (set os i (if_absent (get_or os i none) us)), units_cons (λ vs. vs) o os, quick_adds os i us)

quick_step_adds : (o : Operation) (e : Entry) (os : List (Option Text)) → Present (λ (qs : List (Option Text)). units (λ us. us) qs ≤ units (λ us. us) os + length e.text) (quick_step o e os)
quick_step_adds Add e os = quick_adds os e.index e.text
quick_step_adds Delete e os = omega (arith, set_adds (λ us. us) os e.index none)
quick_step_adds Replace e os = quick_adds os e.index e.text

-- a status text
status_step_adds : (o : Operation) (e : Entry) (os : List (Option Text)) → Present (λ (qs : List (Option Text)). units (λ us. us) qs ≤ units (λ us. us) os + length e.text) (status_step o e os)
status_step_adds Add e os = omega (arith, set_adds (λ us. us) os (e.index - 32) (some e.text))
status_step_adds Delete e os = omega (arith, set_adds (λ us. us) os (e.index - 32) none)
status_step_adds Replace e os = omega (arith, set_adds (λ us. us) os (e.index - 32) (some e.text))

-- ---- a setting

-- the units of the texts of a table, by kind
abbrev own_units : (k : Kind) → Own k → ℕ
own_units k x = units_of (present (row_texts k x))

-- its own table gets at most the texts that it carries
own_adds : (lim : Limits) (s : Setting) (x : Own (kind s)) → Present (λ (y : Own (kind s)). own_units (kind s) y ≤ own_units (kind s) x + units_of (texts s)) (own_after lim s x)
own_adds lim (group_contacts o f es) x = after_adds _ (λ e. e.text) _ (λ e xs. keyed_adds (λ g. g.text) _ contact_places o (contact_of f e) xs) [] refl o es x
own_adds lim (individual_contacts o f es) x = after_adds _ (λ e. e.text) _ (λ e xs. keyed_adds (λ i. i.text) _ contact_places o (contact_of f e) xs) [] refl o es x
own_adds lim (lines o f es) x = after_adds _ (λ e. e.text) _ (λ e ls. keyed_adds (λ l. l.text) _ lim.lines o (line_of f e) ls) [] refl o es x
own_adds lim (key target f) x = omega arith
own_adds lim (quick_texts o es) x = after_adds _ (λ e. e.text) (quick_step o) (quick_step_adds o) (replicate quick_places none) refl o es x
own_adds lim (home h) x = omega arith
own_adds lim (channels o ns) x = present_any _ (λ cs. omega arith) (channels_after lim.channels o ns x)
own_adds lim (system s) x = omega arith
own_adds lim (status_texts o es) x = after_adds _ (λ e. e.text) (status_step o) (status_step_adds o) (replicate status_places none) refl o es x
own_adds lim (group o f s) x = slot_adds (λ g. g.text) o _ x s.index
own_adds lim (individual o f s) x = slot_adds (λ i. i.text) o _ x s.index
own_adds lim (line_slot o f s) x = slot_adds (λ l. l.text) o _ x s.index
own_adds lim (last f h) x = omega arith

module _ (lim : Limits) where
  -- ADDS AT MOST: the sum after a setting is at most the sum before and the texts that it carries
  pub adds_at_most : (s : Setting) (t u : Tables) → change lim s t ≡ some u → text_sum u ≤ text_sum t + 2 * units_of (texts s)
  adds_at_most s t u e =
      let k : Kind = kind s in
      let (x, p, q) = came (put_own k t) (own_after lim s (own k t)) u e in
      let h : own_units k x ≤ own_units k (own k t) + units_of (texts s)
      = subst (Present (λ (y : Own k). own_units k y ≤ own_units k (own k t) + units_of (texts s))) p (own_adds lim s (own k t)) in
      subst (λ (v : Tables). text_sum v ≤ text_sum t + 2 * units_of (texts s)) q (omega (arith, h, sum_put k t x, size_part k t))

  -- and so settings in turn
  pub turn_at_most : (l : List Setting) (t u : Tables) → in_turn (change lim) l t ≡ some u → text_sum u ≤ text_sum t + carried l
  turn_at_most [] t u e = subst (λ (v : Tables). text_sum v ≤ text_sum t + 0) (option_some_injective t u e) (omega arith)
  turn_at_most (s ∷ l) t u e =
      let (v, p, q) = then_some (change lim s t) (in_turn (change lim) l) u e in
      omega (arith, adds_at_most s t v p, turn_at_most l v u q)

  -- CARRIED TURN: settings that change the tables in turn have room where what was held and all that they carry has
  pub carried_turn : (l : List Setting) (t u : Tables) → in_turn (change lim) l t ≡ some u → TextRoom lim.texts (text_sum t + carried l) → in_turn (apply lim) l t ≡ some u
  carried_turn [] t u e h = e
  carried_turn (s ∷ l) t u e h =
      let (v, p, q) = then_some (change lim s t) (in_turn (change lim) l) u e in
      let g : text_sum v ≤ text_sum t + 2 * units_of (texts s) = adds_at_most s t v p in
      ap (λ (o : Option Tables). and_then o (in_turn (apply lim) l)) (freed lim s t v p (less_room lim.texts (text_sum v) (text_sum t + carried (s ∷ l)) (omega arith) h))
      ∙ carried_turn l v u q (less_room lim.texts (text_sum v + carried l) (text_sum t + carried (s ∷ l)) (omega arith) h)

  -- settings that have room in turn leave texts that have, where they had before
  pub turn_kept : (l : List Setting) (t u : Tables) → TextRoom lim.texts (text_sum t) → in_turn (apply lim) l t ≡ some u → TextRoom lim.texts (text_sum u)
  turn_kept [] t u h e = subst (λ (v : Tables). TextRoom lim.texts (text_sum v)) (option_some_injective t u e) h
  turn_kept (s ∷ l) t u h e =
      let (v, p, q) = then_some (apply lim s t) (in_turn (apply lim) l) u e in
      turn_kept l v u ((apply_exactly lim s t v).0 p).1 q

  -- and also where they had not, if there is a setting
  pub turn_within : (l : List Setting) (t u : Tables) → 1 ≤ length l → in_turn (apply lim) l t ≡ some u → TextRoom lim.texts (text_sum u)
  turn_within [] t u h e = absurd (omega arith)
  turn_within (s ∷ l) t u h e =
      let (v, p, q) = then_some (apply lim s t) (in_turn (apply lim) l) u e in
      turn_kept l v u ((apply_exactly lim s t v).0 p).1 q

  -- settings that leave texts with room where they have room have none in turn where they change the tables to texts that pass the area
  pub turn_past : (l : List Setting) (t u : Tables) → in_turn (change lim) l t ≡ some u
      → ((v : Tables) → in_turn (apply lim) l t ≡ some v → TextRoom lim.texts (text_sum v)) → Passes lim.texts (text_sum u) → in_turn (apply lim) l t ≡ none
  turn_past l t u e most h = by (in_turn (apply lim) l t) refl
    where
      by : (o : Option Tables) → in_turn (apply lim) l t ≡ o → o ≡ none
      by none d = refl
      by (some v) d =
          let q : v ≡ u = option_some_injective v u (sym (turn_change lim l t v d) ∙ e) in
          absurd (not_both lim.texts (text_sum u) (subst (λ (w : Tables). TextRoom lim.texts (text_sum w)) q (most v d)) h)
