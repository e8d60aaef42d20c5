-- The sum of texts with no table: by table from its events, for all tables, and whether a setting has room. Assumes nothing.
use Rattle.lists.proofs.Kit.{ℕ, ◌+◌, ◌-◌, ◌≡◌, refl, sym, ap, ap₂, ◌∙◌, subst, Bool, true, false, ◌↔◌, ◌⊎◌, inl, inr, List, [], ◌∷◌, ◌++◌, map, Option, none, some, option_some_injective, option_some_ne_none, replicate, arith, eqb}
use Rattle.slots.specs.Slots.{sum}
use Rattle.writing.specs.declared.Kind.{Kind}
use Rattle.writing.specs.declared.Kind.TheVariants.{GroupContacts, IndividualContacts, Lines, Key, QuickTexts, Home, Channels, System, StatusTexts, Group, Individual, LineSlot, Last}
use Rattle.writing.specs.Settings.{Text, Setting, kind}
use Rattle.tables.specs.declared.limits.Limits.{Limits}
use Rattle.tables.specs.declared.members.Members.TheVariants.{OfGroups, OfIndividuals}
use Rattle.tables.specs.Apply.{in_turn, same_key, change, apply}
use Rattle.tables.specs.Limits.{quick_places, status_places, slot_places, contact_places}
use Rattle.tables.specs.MemberKinds.{contact_key}
use Rattle.tables.specs.Owns.{Own, own, only}
use Rattle.tables.specs.Tables.{line_key, Tables, fresh}
use Rattle.tables.specs.Texts.{rows, text_kinds, text_sum, table_sum, text_size, Passes}
use Rattle.tables.proofs.Owns.{same_kind}
use Rattle.shared_texts.proofs.Sums.{sum_kinds}
use Rattle.shared_texts.proofs.RoomLaws.{no_room_exactly, sum_changed}
use Rattle.events.specs.Events.{Event, Decides, weight, total, after, total_on}
use Rattle.events.specs.Places.{Inside, place_step, spots_total_on}
use Rattle.events.specs.Settings.{quick_place, quick_change, status_place, status_change, slot_place, slot_change, Does, run, Its}
use Rattle.events.specs.Logs.{Told, its_own, not_its, History, Tells, behind, Adds}
use Rattle.events.specs.Sums.{many, counted, text_bytes, size_on, size_read, sum_read, InPlaces}
use Rattle.events.proofs.ReadingLaws.{always_room}
use Rattle.events.proofs.Counting.{total_is}
use Rattle.events.proofs.PlaceLaws.{spots_total_is}
use Rattle.events.proofs.SettingLaws.{nat_decides, key_decides}
use Rattle.events.proofs.LogLaws.{told_run, tells_more}
use Rattle.events.proofs.CountLaws.{full_exactly}

-- ---- what the texts of a table take

-- of places
places_size : {A : Type 0} (text : A → Text) (os : List (Option A)) → table_sum (rows text os) ≡ total (weight (λ a. text_bytes (text a))) os
places_size text [] = refl
places_size text (none ∷ os) = omega (arith, places_size text os)
places_size text (some a ∷ os) = omega (arith, places_size text os)

-- of a list
all_there : {A : Type 0} (size : A → ℕ) (xs : List A) → total (weight size) (map some xs) ≡ total size xs
all_there size [] = refl
all_there size (x ∷ xs) = ap (λ (i : ℕ). size x + i) (all_there size xs)

list_size : {A : Type 0} (text : A → Text) (xs : List A) → table_sum (rows text (map some xs)) ≡ total (λ a. text_bytes (text a)) xs
list_size text xs = places_size text (map some xs) ∙ all_there (λ a. text_bytes (text a)) xs

-- ---- read from events

-- of a list by a key
list_read : {A K : Type 0} (key : A → K) (same : K → K → Bool) (d : Decides same) (room : ℕ) (text : A → Text) (read es : List (Event A K)) (x y : List A)
    → after key same room read [] ≡ some x → after key same room es x ≡ some y
    → total_on key same (λ a. text_bytes (text a)) read es (table_sum (rows text (map some x))) ≡ table_sum (rows text (map some y))
list_read key same d room text read es x y h e =
    ap (total_on key same (λ a. text_bytes (text a)) read es) (list_size text x)
    ∙ total_is key same d room (λ a. text_bytes (text a)) es read x y h e
    ∙ sym (list_size text y)

-- of places
places_read : {A B : Type 0} (place : A → ℕ) (change : Option B → A → Option B) (n : ℕ) (text : B → Text) (read es : List (Event A ℕ)) (x y : List (Option B)) → Inside place n es
    → in_turn (λ v t. some (place_step place change n v t)) read (replicate n none) ≡ some x → in_turn (λ v t. some (place_step place change n v t)) es x ≡ some y
    → spots_total_on place change (λ b. text_bytes (text b)) read es (table_sum (rows text x)) ≡ table_sum (rows text y)
places_read place change n text read es x y p h e =
    ap (spots_total_on place change (λ b. text_bytes (text b)) read es) (places_size text x)
    ∙ spots_total_is place change n (λ b. text_bytes (text b)) es read x p (option_some_injective _ x (sym (always_room (place_step place change n) read (replicate n none)) ∙ h))
    ∙ ap (total (weight (λ b. text_bytes (text b)))) (option_some_injective _ y (sym (always_room (place_step place change n) es x) ∙ e))
    ∙ sym (places_size text y)

-- SIZE-IS: what the texts of a table take after events is read from them
pub size_is : (lim : Limits) (k : Kind) (read es : List (Does k)) (x y : Own k) → InPlaces k es → in_turn (run lim k) read (own k fresh) ≡ some x → in_turn (run lim k) es x ≡ some y
    → size_on k read es (text_size k x) ≡ text_size k y
size_is lim GroupContacts read es x y p h e = list_read (contact_key OfGroups) eqb nat_decides contact_places (λ g. g.text) read es x y h e
size_is lim IndividualContacts read es x y p h e = list_read (contact_key OfIndividuals) eqb nat_decides contact_places (λ i. i.text) read es x y h e
size_is lim Lines read es x y p h e = list_read line_key same_key key_decides lim.lines (λ l. l.text) read es x y h e
size_is lim Key read es x y p h e = refl
size_is lim QuickTexts read es x y p h e = places_read quick_place quick_change quick_places (λ us. us) read es x y p h e
size_is lim Home read es x y p h e = refl
size_is lim Channels read es x y p h e = refl
size_is lim System read es x y p h e = refl
size_is lim StatusTexts read es x y p h e = places_read status_place status_change status_places (λ us. us) read es x y p h e
size_is lim Group read es x y p h e = places_read slot_place slot_change slot_places (λ g. g.text) read es x y p h e
size_is lim Individual read es x y p h e = places_read slot_place slot_change slot_places (λ i. i.text) read es x y p h e
size_is lim LineSlot read es x y p h e = places_read slot_place slot_change slot_places (λ l. l.text) read es x y p h e
size_is lim Last read es x y p h e = refl

-- a fresh set has no text
fresh_size : (k : Kind) → text_size k (own k fresh) ≡ 0
fresh_size GroupContacts = refl
fresh_size IndividualContacts = refl
fresh_size Lines = refl
fresh_size Key = refl
fresh_size QuickTexts = refl
fresh_size Home = refl
fresh_size Channels = refl
fresh_size System = refl
fresh_size StatusTexts = refl
fresh_size Group = refl
fresh_size Individual = refl
fresh_size LineSlot = refl
fresh_size Last = refl

-- SIZE-TOLD: from the first event on
pub size_told : (lim : Limits) (k : Kind) (es : List (Does k)) (x : Own k) → InPlaces k es → in_turn (run lim k) es (own k fresh) ≡ some x → size_read k es ≡ text_size k x
size_told lim k es x p h = ap (size_on k [] es) (sym (fresh_size k)) ∙ size_is lim k [] es (own k fresh) x p refl h

-- ---- all tables

-- equal sizes have an equal sum
sum_same : (f g : Kind → ℕ) → ((k : Kind) → f k ≡ g k) → (ks : List Kind) → sum (map f ks) ≡ sum (map g ks)
sum_same f g h [] = refl
sum_same f g h (k ∷ ks) = ap₂ (λ (a b : ℕ). a + b) (h k) (sum_same f g h ks)

-- SUM-IS: the sum of the texts of the tables is the sum over the tables of what is read from their events
pub sum_is : (lim : Limits) (es : History) (t : Tables) → Tells lim es t → ((k : Kind) → InPlaces k (es k)) → text_sum t ≡ sum_read es
sum_is lim es t h p = sum_kinds t ∙ sum_same (λ k. text_size k (own k t)) (λ k. size_read k (es k)) (λ k. sym (size_told lim k (es k) (own k t) (p k) (h k))) text_kinds

-- SUM-NEXT: after one setting more it is the sum before, less what its own table took, with what is read for it from the setting's events
pub sum_next : (lim : Limits) (s : Setting) (t u : Tables) (read es : List (Does (kind s))) → in_turn (run lim (kind s)) read (own (kind s) fresh) ≡ some (own (kind s) t) → Its s es → InPlaces (kind s) es
    → change lim s t ≡ some u
    → text_sum u ≡ text_sum t - text_size (kind s) (own (kind s) t) + size_on (kind s) read es (text_size (kind s) (own (kind s) t))
sum_next lim s t u read es h i p e =
    let k : Kind = kind s in
    sum_changed lim s t u e
    ∙ ap (λ (n : ℕ). text_sum t - text_size k (own k t) + n) (sym (size_is lim k read es (own k t) (own k u) p h (told_run lim s t u e k es (its_own i))))

-- ---- whether a setting has room

-- a setting's events for every table are its events for each
pub adds_told : (s : Setting) (more : History) → Adds s more → (k : Kind) → Told k s (more k)
adds_told s more a k = go (only (kind s) k) refl
  where
    go : (b : Bool) → only (kind s) k ≡ b → Told k s (more k)
    go true h = subst (λ (j : Kind). Told j s (more j)) (same_kind (kind s) k h) (its_own a.its)
    go false h = subst (λ (vs : List (Does k)). Told k s vs) (sym (a.others k h)) (not_its h)

-- JUDGED: a setting has no room exactly if the count says so, or else if the sum that is read from all events and then its own passes the area
pub judged : (lim : Limits) (s : Setting) (es more : History) (t : Tables) → Tells lim es t → Adds s more → ((k : Kind) → InPlaces k (es k ++ more k))
    → (apply lim s t ≡ none) ↔ ((counted lim (kind s) (es (kind s)) (more (kind s)) (many (kind s) (own (kind s) t)) ≡ none)
    ⊎ ((counted lim (kind s) (es (kind s)) (more (kind s)) (many (kind s) (own (kind s) t)) ≡ none → ⊥) × Passes lim.texts (sum_read (behind es more))))
judged lim s es more t h a p = (λ e. there ((no_room_exactly lim s t).0 e), λ e. (no_room_exactly lim s t).1 (back e))
  where
    Full : Type 0
    Full = counted lim (kind s) (es (kind s)) (more (kind s)) (many (kind s) (own (kind s) t)) ≡ none

    full : (change lim s t ≡ none) ↔ Full
    full = full_exactly lim s t (es (kind s)) (more (kind s)) (h (kind s)) a.its

    summed : (u : Tables) → change lim s t ≡ some u → text_sum u ≡ sum_read (behind es more)
    summed u e = sum_is lim (behind es more) u (tells_more lim s es more t u h (adds_told s more a) e) p

    there : (change lim s t ≡ none) ⊎ ((u : Tables) × (change lim s t ≡ some u) × Passes lim.texts (text_sum u)) → Full ⊎ ((Full → ⊥) × Passes lim.texts (sum_read (behind es more)))
    there (inl e) = inl (full.0 e)
    there (inr (u, e, q)) = inr (λ c. option_some_ne_none u (sym e ∙ full.1 c), subst (Passes lim.texts) (summed u e) q)

    back : Full ⊎ ((Full → ⊥) × Passes lim.texts (sum_read (behind es more))) → (change lim s t ≡ none) ⊎ ((u : Tables) × (change lim s t ≡ some u) × Passes lim.texts (text_sum u))
    back (inl c) = inl (full.1 c)
    back (inr (c, q)) = go (change lim s t) refl
      where
        go : (o : Option Tables) → change lim s t ≡ o → (change lim s t ≡ none) ⊎ ((u : Tables) × (change lim s t ≡ some u) × Passes lim.texts (text_sum u))
        go none e = inl e
        go (some u) e = inr (u, e, subst (Passes lim.texts) (sym (summed u e)) q)
