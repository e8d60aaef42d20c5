-- What a list by a key holds under a key after an operation: over any key and any entries. Assumes nothing.
use Rattle.lists.proofs.Kit.{ℕ, zero, suc, ◌≡◌, refl, sym, ap, ◌∙◌, subst, ◌↔◌, ◌≢◌, Bool, true, false, cond, true≢false, List, [], ◌∷◌, map, Option, none, some, option_some_injective, option_none_ne_some, ltb, get_or}
use Rattle.lists.specs.Every.{All}
use Rattle.slots.specs.Slots.{unless, index_of, put_at}
use Rattle.counted_lists.specs.Counted.{put_keyed, Distinct}
use Rattle.writing.specs.declared.Operation.{Operation}
use Rattle.writing.specs.declared.Operation.TheVariants.{Add, Delete, Replace}
use Rattle.requests.specs.Requests.{or_else}
use Rattle.tables.specs.Apply.{and_then, in_turn, start_from, with_room, keyed_step}
use Rattle.laws_screen.specs.ByKey.{found, last_or, under_key}

-- ---- the last of some entries

module _ {A : Type 0} (has : A → Bool) where
  -- none of them leaves what was there, and any of them the last
  last_left : (p : Option A) (l : List A) → last_or has p l ≡ or_else (with_room some (last_or has none l)) p
  last_left p [] = refl
  last_left p (x ∷ l) = go (has x) (last_or has none l) (λ q. last_left q l)
    where
      go : (b : Bool) (q : Option A) → ((r : Option A) → last_or has r l ≡ or_else (with_room some q) r)
          → last_or has (cond b (some x) p) l ≡ or_else (with_room some (last_or has (cond b (some x) none) l)) p
      go true none e = e (some x) ∙ ap (λ r. or_else (with_room some r) p) (sym (e (some x)))
      go true (some y) e = e (some x) ∙ ap (λ r. or_else (with_room some r) p) (sym (e (some x)))
      go false none e = e p ∙ ap (λ r. or_else (with_room some r) p) (sym (e none))
      go false (some y) e = e p ∙ ap (λ r. or_else (with_room some r) p) (sym (e none))

  -- what deletes leave
  abbrev gone : Option A → List A → Option A
  gone p [] = p
  gone p (x ∷ l) = gone (cond (has x) none p) l

  gone_left : (p : Option A) (l : List A) → gone p l ≡ or_else (with_room (λ x. none) (last_or has none l)) p
  gone_left p [] = refl
  gone_left p (x ∷ l) = go (has x) (last_or has none l) (λ q. last_left q l) (λ q. gone_left q l)
    where
      go : (b : Bool) (q : Option A) → ((r : Option A) → last_or has r l ≡ or_else (with_room some q) r)
          → ((r : Option A) → gone r l ≡ or_else (with_room (λ (y : A). none) q) r)
          → gone (cond b none p) l ≡ or_else (with_room (λ (y : A). none) (last_or has (cond b (some x) none) l)) p
      go true none e d = d none ∙ ap (λ r. or_else (with_room (λ (y : A). none) r) p) (sym (e (some x)))
      go true (some y) e d = d none ∙ ap (λ r. or_else (with_room (λ (y : A). none) r) p) (sym (e (some x)))
      go false none e d = d p ∙ ap (λ r. or_else (with_room (λ (y : A). none) r) p) (sym (e none))
      go false (some y) e d = d p ∙ ap (λ r. or_else (with_room (λ (y : A). none) r) p) (sym (e none))

-- ---- one entry, and entries in turn

-- entries with one key have the key that is looked for or have it not, and those that have it have one key
pub record Looks {A : Type 0} (same : A → A → Bool) (has : A → Bool) : Type 0 where
  pub alike : (a x : A) → same a x ≡ true → has x ≡ has a
  pub one : (a x : A) → has a ≡ true → has x ≡ true → same a x ≡ true

module _ {A K : Type 0} (key : A → K) (has : K → A → Bool) (decides : (k : K) (a : A) → (has k a ≡ true) ↔ (key a ≡ k)) where
  -- so it is where a test says which entries have a key
  pub looks_by : (k : K) → Looks (λ a. has (key a)) (has k)
  looks_by k = record {
    alike = λ a x e. go a x ((decides (key a) x).0 e) (has k x) (has k a) refl refl;
    one = λ a x h j. (decides (key a) x).1 ((decides k x).0 j ∙ sym ((decides k a).0 h));
  }
    where
      go : (a x : A) → key x ≡ key a → (b c : Bool) → has k x ≡ b → has k a ≡ c → b ≡ c
      go a x e true true h j = refl
      go a x e true false h j = absurd (true≢false (sym ((decides k a).1 (sym e ∙ (decides k x).0 h)) ∙ j))
      go a x e false true h j = absurd (true≢false (sym ((decides k x).1 (e ∙ (decides k a).0 j)) ∙ h))
      go a x e false false h j = refl

module _ {A : Type 0} (same : A → A → Bool) (has : A → Bool) (looks : Looks same has) where
  -- an entry that is put is found under its own key, and changes nothing under another
  put_found : (a : A) (ls : List A) → found has (put_at (index_of (same a) ls) a ls) ≡ cond (has a) (some a) (found has ls)
  put_found a [] = refl
  put_found a (x ∷ xs) = go (same a x) refl (put_found a xs)
    where
      here : (b c : Bool) → c ≡ b → (o : Option A) → cond b (some a) o ≡ cond b (some a) (cond c (some x) o)
      here true c e o = refl
      here false c e o = ap (λ d. cond d (some x) o) (sym e)

      there : (b c : Bool) → has a ≡ b → has x ≡ c → same a x ≡ false → (o p : Option A) → o ≡ cond b (some a) p → cond c (some x) o ≡ cond b (some a) (cond c (some x) p)
      there true true h k e o p r = absurd (true≢false (sym (looks.one a x h k) ∙ e))
      there true false h k e o p r = r
      there false c h k e o p r = ap (λ q. cond c (some x) q) r

      go : (b : Bool) → same a x ≡ b → found has (put_at (index_of (same a) xs) a xs) ≡ cond (has a) (some a) (found has xs)
          → found has (put_at (cond b 0 (suc (index_of (same a) xs))) a (x ∷ xs)) ≡ cond (has a) (some a) (cond (has x) (some x) (found has xs))
      go true e r = here (has a) (has x) (looks.alike a x e) (found has xs)
      go false e r = there (has a) (has x) refl refl e (found has (put_at (index_of (same a) xs) a xs)) (found has xs) r

  -- one that is taken out is not found any more
  drop_found : (a : A) (ls : List A) → found has (unless (same a) ls) ≡ cond (has a) none (found has ls)
  drop_found a [] = go (has a)
    where
      go : (b : Bool) → found has [] ≡ cond b none (found has [])
      go true = refl
      go false = refl
  drop_found a (x ∷ xs) = go (same a x) refl (drop_found a xs)
    where
      here : (b c : Bool) → c ≡ b → (o : Option A) → cond b none o ≡ cond b none (cond c (some x) o)
      here true c e o = refl
      here false c e o = ap (λ d. cond d (some x) o) (sym e)

      there : (b c : Bool) → has a ≡ b → has x ≡ c → same a x ≡ false → (o p : Option A) → o ≡ cond b none p → cond c (some x) o ≡ cond b none (cond c (some x) p)
      there true true h k e o p r = absurd (true≢false (sym (looks.one a x h k) ∙ e))
      there true false h k e o p r = r
      there false c h k e o p r = ap (λ q. cond c (some x) q) r

      go : (b : Bool) → same a x ≡ b → found has (unless (same a) xs) ≡ cond (has a) none (found has xs)
          → found has (cond b (unless (same a) xs) (x ∷ unless (same a) xs)) ≡ cond (has a) none (cond (has x) (some x) (found has xs))
      go true e r = r ∙ here (has a) (has x) (looks.alike a x e) (found has xs)
      go false e r = there (has a) (has x) refl refl e (found has (unless (same a) xs)) (found has xs) r

  -- what was put where there was room
  was_put : (b : Bool) (ms ks : List A) → cond b (some ms) none ≡ some ks → ms ≡ ks
  was_put true ms ks e = option_some_injective ms ks e
  was_put false ms ks e = absurd (option_none_ne_some ks e)

  put_step : (n : ℕ) (a : A) (ls ms : List A) → put_keyed (same a) n a ls ≡ some ms → found has ms ≡ cond (has a) (some a) (found has ls)
  put_step n a ls ms e =
      ap (found has) (sym (was_put (ltb (index_of (same a) ls) n) (put_at (index_of (same a) ls) a ls) ms e)) ∙ put_found a ls

  -- the first step and the others
  module _ {E : Type 0} (make : E → A) (n : ℕ) where
    abbrev steps : Operation → E → List A → Option (List A)
    steps o e ls = keyed_step same n o (make e) ls

    first_step : (o : Operation) (e : E) (es : List E) (ls ms : List A) → in_turn (steps o) (e ∷ es) ls ≡ some ms
        → (ks : List A) × (steps o e ls ≡ some ks) × (in_turn (steps o) es ks ≡ some ms)
    first_step o e es ls ms h = go (steps o e ls) refl h
      where
        go : (r : Option (List A)) → steps o e ls ≡ r → and_then r (in_turn (steps o) es) ≡ some ms → (ks : List A) × (steps o e ls ≡ some ks) × (in_turn (steps o) es ks ≡ some ms)
        go none d k = absurd (option_none_ne_some ms k)
        go (some ks) d k = (ks, d, k)

    adds_found : (es : List E) (ls ms : List A) → in_turn (steps Add) es ls ≡ some ms → found has ms ≡ last_or has (found has ls) (map make es)
    adds_found [] ls ms h = ap (found has) (sym (option_some_injective ls ms h))
    adds_found (e ∷ es) ls ms h =
        let (ks, d, k) = first_step Add e es ls ms h in
        adds_found es ks ms k ∙ ap (λ o. last_or has o (map make es)) (put_step n (make e) ls ks d)

    drops_found : (es : List E) (ls ms : List A) → in_turn (steps Delete) es ls ≡ some ms → found has ms ≡ gone has (found has ls) (map make es)
    drops_found [] ls ms h = ap (found has) (sym (option_some_injective ls ms h))
    drops_found (e ∷ es) ls ms h =
        let (ks, d, k) = first_step Delete e es ls ms h in
        drops_found es ks ms k
        ∙ ap (λ o. gone has o (map make es)) (ap (found has) (sym (option_some_injective (unless (same (make e)) ls) ks d)) ∙ drop_found (make e) ls)

    replaces_found : (es : List E) (ls ms : List A) → in_turn (steps Replace) es ls ≡ some ms → found has ms ≡ last_or has (found has ls) (map make es)
    replaces_found [] ls ms h = ap (found has) (sym (option_some_injective ls ms h))
    replaces_found (e ∷ es) ls ms h =
        let (ks, d, k) = first_step Replace e es ls ms h in
        replaces_found es ks ms k ∙ ap (λ o. last_or has o (map make es)) (put_step n (make e) ls ks d)

    -- UNDER A KEY: an operation leaves there what its last entry with the key says, and what was there if none has it
    pub key_left : (o : Operation) (es : List E) (ls ms : List A) → in_turn (steps o) es (start_from o [] ls) ≡ some ms
        → found has ms ≡ or_else (under_key has o (map make es)) (found has ls)
    key_left Add es ls ms h = adds_found es ls ms h ∙ last_left has (found has ls) (map make es)
    key_left Delete es ls ms h = drops_found es ls ms h ∙ gone_left has (found has ls) (map make es)
    key_left Replace es ls ms h = replaces_found es [] ms h

-- ---- where it stands

-- what all entries have, the one at a place has
all_at : {A : Type 0} (P : A → Type 0) (ls : List A) → All P ls → (i : ℕ) (x : A) → get_or (map some ls) i none ≡ some x → P x
all_at P [] h i x e = absurd (option_none_ne_some x e)
all_at P (y ∷ ys) h zero x e = subst P (option_some_injective y x e) h.0
all_at P (y ∷ ys) h (suc i) x e = all_at P ys h.1 i x e

module _ {A K : Type 0} (key : A → K) (has : A → Bool) (x : A) (decides : (y : A) → (has y ≡ true) ↔ (key y ≡ key x)) where
  -- the entry at any place is found under its key, where no two have one
  pub found_there : (ls : List A) → Distinct key ls → (i : ℕ) → get_or (map some ls) i none ≡ some x → found has ls ≡ some x
  found_there [] d i e = absurd (option_none_ne_some x e)
  found_there (y ∷ ys) d zero e =
      let s : y ≡ x = option_some_injective y x e in
      ap (λ b. cond b (some y) (found has ys)) ((decides y).1 (ap key s)) ∙ ap some s
  found_there (y ∷ ys) d (suc i) e = go (has y) refl (found_there ys d.1 i e)
    where
      go : (b : Bool) → has y ≡ b → found has ys ≡ some x → cond b (some y) (found has ys) ≡ some x
      go true h r = absurd (all_at (λ z. key z ≢ key y) ys d.0 i x e (sym ((decides y).0 h)))
      go false h r = r

-- and what is found stands at a place
pub found_place : {A : Type 0} (has : A → Bool) (x : A) (ls : List A) → found has ls ≡ some x → (i : ℕ) × (get_or (map some ls) i none ≡ some x)
found_place has x [] e = absurd (option_none_ne_some x e)
found_place {A} has x (y ∷ ys) e = go (has y) e (λ h. found_place has x ys h)
  where
    go : (b : Bool) → cond b (some y) (found has ys) ≡ some x → (found has ys ≡ some x → (i : ℕ) × (get_or (map some ys) i none ≡ some x))
        → (i : ℕ) × (get_or (map some (y ∷ ys)) i none ≡ some x)
    go true h r = (0, h)
    go false h r = let (i, p) = r h in (suc i, p)

-- and has the key
pub found_has : {A : Type 0} (has : A → Bool) (x : A) (ls : List A) → found has ls ≡ some x → has x ≡ true
found_has has x [] e = absurd (option_none_ne_some x e)
found_has has x (y ∷ ys) e = go (has y) refl e (λ h. found_has has x ys h)
  where
    go : (b : Bool) → has y ≡ b → cond b (some y) (found has ys) ≡ some x → (found has ys ≡ some x → has x ≡ true) → has x ≡ true
    go true h k r = ap has (sym (option_some_injective y x k)) ∙ h
    go false h k r = r k
