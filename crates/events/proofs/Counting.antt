-- How many entries there are, and how much they take, with no table: whether there is room is judged from numbers. Assumes nothing.
use Rattle.lists.proofs.Kit.{ℕ, suc, ◌+◌, ◌-◌, ◌≤◌, ◌≡◌, refl, sym, ap, ◌∙◌, subst, Bool, true, false, cond, List, [], ◌∷◌, ◌++◌, map, Option, none, some, option_some_injective, option_none_ne_some, arith, ltb-true, lt-ltb, ltb, length}
use Rattle.lists.proofs.Every.{all_map}
use Rattle.slots.specs.Slots.{unless, index_of, put_at}
use Rattle.slots.proofs.Tables.{put_short, unless_short}
use Rattle.tables.specs.Apply.{and_then, in_turn}
use Rattle.tables.proofs.RoomSentences.{turn_append}
use Rattle.events.specs.Events.{Event, clear, put, remove, Decides, find, found, entry, weight, total, has, step, after, look, count_step, count_on, total_step, total_on}
use Rattle.events.proofs.Finding.{find_index, find_inside, find_weight, Lone, total_put, total_drop, total_ones}
use Rattle.events.proofs.Keeping.{holds, keep_on, after_entries, look_is}
use Rattle.events.proofs.Orders.{Apart, apart_on}

-- an entry is found with its birth or without
found_entry : {A : Type 0} (o : Option (ℕ × A)) → found o ≡ found (entry o)
found_entry none = refl
found_entry (some e) = refl

-- an entry of one each
weight_found : {A : Type 0} (o : Option (ℕ × A)) → weight (λ a. 1) (entry o) ≡ cond (found o) 1 0
weight_found none = refl
weight_found (some a) = refl

module _ {A K : Type 0} (key : A → K) (same : K → K → Bool) (d : Decides same) (room : ℕ) where
  -- ---- what events leave has at most `room` entries, and no two of one key

  -- one event
  step_short : (v : Event A K) (l m : List A) → step key same room v l ≡ some m → length l ≤ room → length m ≤ room
  step_short clear l m e h = subst (λ (k : List A). length k ≤ room) (option_some_injective [] m e) (omega arith)
  step_short (put n a) l m e h = go (ltb (index_of (has key same (key a)) l) room) refl e
    where
      go : (b : Bool) → ltb (index_of (has key same (key a)) l) room ≡ b → cond b (some (put_at (index_of (has key same (key a)) l) a l)) none ≡ some m → length m ≤ room
      go true t e = subst (λ (k : List A). length k ≤ room) (option_some_injective _ m e) (put_short (index_of (has key same (key a)) l) room a l (ltb-true _ room t) h)
      go false t e = absurd (option_none_ne_some m e)
  step_short (remove k) l m e h = subst (λ (k : List A). length k ≤ room) (option_some_injective _ m e) (omega (arith, unless_short (has key same k) l))

  -- all events
  pub after_short : (es : List (Event A K)) (l m : List A) → after key same room es l ≡ some m → length l ≤ room → length m ≤ room
  after_short [] l m e h = subst (λ (k : List A). length k ≤ room) (option_some_injective l m e) h
  after_short (v ∷ es) l m e h = go (step key same room v l) refl e (λ k. after_short es k m)
    where
      go : (o : Option (List A)) → step key same room v l ≡ o → and_then o (in_turn (step key same room) es) ≡ some m
          → ((k : List A) → after key same room es k ≡ some m → length k ≤ room → length m ≤ room) → length m ≤ room
      go none t e r = absurd (option_none_ne_some m e)
      go (some k) t e r = r k e (step_short v l k t h)

  -- of entries with keys of their own, one at most has a key
  apart_lone : (k : K) (l : List (ℕ × A)) → Apart key same d l → Lone (has key same k) (map (λ e. e.1) l)
  apart_lone k [] h = tt
  apart_lone k (e ∷ l) h = (
    λ t. all_map (λ x. holds key same (key e.1) x ≡ false) (λ y. has key same k y ≡ false) (λ x. x.1) (λ x q. ap (λ κ. same (key x.1) κ) (sym (d.are (key e.1) k t)) ∙ q) l h.0,
    apart_lone k l h.1,
  )

  -- the events that were read left l
  module _ (read : List (Event A K)) (l : List A) (left : after key same room read [] ≡ some l) where
    -- one entry at most has a key
    lone : (k : K) → Lone (has key same k) l
    lone k = subst (Lone (has key same k)) (sym (after_entries key same room read [] l left)) (apart_lone k (keep_on key same read []) (apart_on key same d read [] tt))

    -- what is found of a key stands in l
    pub look_found : (k : K) → found (look key same k read) ≡ found (find (has key same k) l)
    look_found k = found_entry (look key same k read) ∙ ap found (look_is key same d room read l k left)

    -- "full" is judged from the number of entries and whether the key is found
    pub room_test : (a : A) → ltb (index_of (has key same (key a)) l) room ≡ cond (found (look key same (key a) read)) true (ltb (length l) room)
    room_test a = go (found (look key same (key a) read)) refl
      where
        go : (b : Bool) → found (look key same (key a) read) ≡ b → ltb (index_of (has key same (key a)) l) room ≡ cond b true (ltb (length l) room)
        go true t = lt-ltb _ room (omega (arith, find_inside (has key same (key a)) l (sym (look_found (key a)) ∙ t), after_short read [] l left (omega arith)))
        go false t = ap (λ (i : ℕ). ltb i room) (find_index (has key same (key a)) l (sym (look_found (key a)) ∙ t))

    -- ---- how much the entries take after one event more

    -- what is found takes no more than all do, so that it can be taken off
    pub look_weight : (size : A → ℕ) (k : K) → weight size (entry (look key same k read)) ≤ total size l
    look_weight size k = rw (look_is key same d room read l k left) (find_weight (has key same k) size l)

    -- and where one is found, there is one
    pub look_some : (k : K) → found (look key same k read) ≡ true → 1 ≤ length l
    look_some k h = let i = find_inside (has key same k) l (sym (look_found k) ∙ h) in omega arith

    -- a put takes what its entry takes, less what the one takes that it replaces
    put_total : (size : A → ℕ) (a : A) → total size (put_at (index_of (has key same (key a)) l) a l) ≡ total size l + size a - weight size (entry (look key same (key a) read))
    put_total size a = rw (look_is key same d room read l (key a) left) (omega (arith, total_put (has key same (key a)) size a l))

    -- a remove gives back what the one takes that goes
    drop_total : (size : A → ℕ) (k : K) → total size (unless (has key same k) l) ≡ total size l - weight size (entry (look key same k read))
    drop_total size k = rw (look_is key same d room read l k left) (omega (arith, total_drop (has key same k) size l (lone k)))

    -- one event
    pub total_next : (size : A → ℕ) (v : Event A K) (m : List A) → step key same room v l ≡ some m → total_step key same size read v (total size l) ≡ total size m
    total_next size clear m e = ap (total size) (option_some_injective [] m e)
    total_next size (put n a) m e = go (ltb (index_of (has key same (key a)) l) room) e
      where
        go : (b : Bool) → cond b (some (put_at (index_of (has key same (key a)) l) a l)) none ≡ some m → total_step key same size read (put n a) (total size l) ≡ total size m
        go true e = sym (put_total size a) ∙ ap (total size) (option_some_injective _ m e)
        go false e = absurd (option_none_ne_some m e)
    total_next size (remove k) m e = sym (drop_total size k) ∙ ap (total size) (option_some_injective _ m e)

    -- ---- how many there are after one event more, or that there is no room

    -- a put adds one where its key is not found
    put_length : (a : A) (b : Bool) → found (look key same (key a) read) ≡ b → length (put_at (index_of (has key same (key a)) l) a l) ≡ cond b (length l) (suc (length l))
    put_length a b h = by b (weight_found (look key same (key a) read) ∙ ap (λ t. cond t 1 0) h)
      where
        by : (t : Bool) → weight (λ x. 1) (entry (look key same (key a) read)) ≡ cond t 1 0 → length (put_at (index_of (has key same (key a)) l) a l) ≡ cond t (length l) (suc (length l))
        by true w = omega (arith, put_total (λ x. 1) a, total_ones l, total_ones (put_at (index_of (has key same (key a)) l) a l))
        by false w = omega (arith, put_total (λ x. 1) a, total_ones l, total_ones (put_at (index_of (has key same (key a)) l) a l))

    -- a remove takes one away where its key is found
    drop-length : (k : K) (b : Bool) → found (look key same k read) ≡ b → length (unless (has key same k) l) ≡ cond b (length l - 1) (length l)
    drop-length k b h = by b (weight_found (look key same k read) ∙ ap (λ t. cond t 1 0) h)
      where
        by : (t : Bool) → weight (λ x. 1) (entry (look key same k read)) ≡ cond t 1 0 → length (unless (has key same k) l) ≡ cond t (length l - 1) (length l)
        by true w = omega (arith, drop_total (λ x. 1) k, total_ones l, total_ones (unless (has key same k) l))
        by false w = omega (arith, drop_total (λ x. 1) k, total_ones l, total_ones (unless (has key same k) l))

    -- one event
    pub count_next : (v : Event A K) → count_step key same room read v (length l) ≡ mathlib.Core.Option.map length (step key same room v l)
    count_next clear = refl
    count_next (put n a) = go (found (look key same (key a) read)) refl
      where
        more : List A
        more = put_at (index_of (has key same (key a)) l) a l

        by : (t : Bool) → length more ≡ suc (length l) → cond t (some (suc (length l))) none ≡ mathlib.Core.Option.map length (cond t (some more) none)
        by true h = ap some (sym h)
        by false h = refl

        go : (b : Bool) → found (look key same (key a) read) ≡ b
            → cond b (some (length l)) (cond (ltb (length l) room) (some (suc (length l))) none) ≡ mathlib.Core.Option.map length (cond (ltb (index_of (has key same (key a)) l) room) (some more) none)
        go true h = rw (room_test a, h) (ap some (sym (put_length a true h)))
        go false h = rw (room_test a, h) (by (ltb (length l) room) (put_length a false h))
    count_next (remove k) = ap some (sym (drop-length k (found (look key same k read)) refl))

    -- the events that were read, and one more
    read_on : (v : Event A K) (m : List A) → step key same room v l ≡ some m → after key same room (read ++ (v ∷ [])) [] ≡ some m
    read_on v m e = turn_append (step key same room) read (v ∷ []) [] ∙ ap (λ o. and_then o (in_turn (step key same room) (v ∷ []))) left ∙ ap (λ o. and_then o (in_turn (step key same room) [])) e

  -- ---- all events

  -- "the list's length changes by one exactly at a put of a key not found and at a remove of one that is": the count is kept, and says when there is no room
  pub count_is : (es read : List (Event A K)) (l : List A) → after key same room read [] ≡ some l → count_on key same room read es (length l) ≡ mathlib.Core.Option.map length (after key same room es l)
  count_is [] read l left = refl
  count_is (v ∷ es) read l left = ap (λ o. and_then o (count_on key same room (read ++ (v ∷ [])) es)) (count_next read l left v) ∙ go (step key same room v l) refl (λ k e. count_is es (read ++ (v ∷ [])) k (read_on read l left v k e))
    where
      go : (o : Option (List A)) → step key same room v l ≡ o
          → ((k : List A) → step key same room v l ≡ some k → count_on key same room (read ++ (v ∷ [])) es (length k) ≡ mathlib.Core.Option.map length (after key same room es k))
          → and_then (mathlib.Core.Option.map length o) (count_on key same room (read ++ (v ∷ [])) es) ≡ mathlib.Core.Option.map length (and_then o (in_turn (step key same room) es))
      go none e r = refl
      go (some k) e r = r k e

  -- and so is the sum of what the entries take
  pub total_is : (size : A → ℕ) (es read : List (Event A K)) (l m : List A) → after key same room read [] ≡ some l → after key same room es l ≡ some m → total_on key same size read es (total size l) ≡ total size m
  total_is size [] read l m left e = ap (total size) (option_some_injective l m e)
  total_is size (v ∷ es) read l m left e =
      go (step key same room v l) refl e (λ k h f. ap (total_on key same size (read ++ (v ∷ [])) es) (total_next read l left size v k h) ∙ total_is size es (read ++ (v ∷ [])) k m (read_on read l left v k h) f)
    where
      go : (o : Option (List A)) → step key same room v l ≡ o → and_then o (in_turn (step key same room) es) ≡ some m
          → ((k : List A) → step key same room v l ≡ some k → after key same room es k ≡ some m → total_on key same size read (v ∷ es) (total size l) ≡ total size m)
          → total_on key same size read (v ∷ es) (total size l) ≡ total size m
      go none h e r = absurd (option_none_ne_some m e)
      go (some k) h e r = r k h e

  -- from an empty table
  pub look_count : (es : List (Event A K)) → count_on key same room [] es 0 ≡ mathlib.Core.Option.map length (after key same room es [])
  look_count es = count_is es [] [] refl

  pub look_total : (size : A → ℕ) (es : List (Event A K)) (l : List A) → after key same room es [] ≡ some l → total_on key same size [] es 0 ≡ total size l
  look_total size es l e = total_is size es [] [] l refl e
