-- The table with the birth of each entry beside it: what looking for a key finds is what stands in it. Assumes nothing.
use Rattle.lists.proofs.Kit.{ℕ, suc, ◌≡◌, refl, sym, ap, ap₂, ◌∙◌, ◌↔◌, Bool, true, false, cond, List, [], ◌∷◌, map, Option, none, some, option_some_injective, option_none_ne_some, option_some_ne_none, ltb, get_or}
use Rattle.lists.specs.Every.{All}
use Rattle.slots.specs.Slots.{unless, index_of, put_at}
use Rattle.slots.proofs.Changes.{index_end}
use Rattle.tables.specs.Apply.{and_then, in_turn}
use Rattle.events.specs.Reading.{reading}
use Rattle.events.specs.Events.{Event, clear, put, remove, Decides, find, found, entry, birth, has, step, after, look_step, look_on, look}
use Rattle.events.proofs.Finding.{clash, either_way, find_absent, find_at, find_entry, find_index}

-- what has no entry is nothing
no_entry : {A : Type 0} (o : Option (ℕ × A)) → entry o ≡ none → o ≡ none
no_entry none e = refl
no_entry (some x) e = absurd (option_some_ne_none x.1 e)

module _ {A K : Type 0} (key : A → K) (same : K → K → Bool) where
  -- an entry with its birth has the key
  abbrev pub holds : K → ℕ × A → Bool
  holds κ e = has key same κ e.1

  -- an entry takes the place and the birth of the one with its key, or is born behind the last
  abbrev pub keep : ℕ → A → List (ℕ × A) → List (ℕ × A)
  keep n a [] = (n, a) ∷ []
  keep n a (e ∷ l) = cond (holds (key a) e) ((e.0, a) ∷ l) (e ∷ keep n a l)

  abbrev pub keep_step : Event A K → List (ℕ × A) → List (ℕ × A)
  keep_step clear l = []
  keep_step (put n a) l = keep n a l
  keep_step (remove k) l = unless (holds k) l

  abbrev pub keep_on : List (Event A K) → List (ℕ × A) → List (ℕ × A)
  keep_on es l = reading keep_step es l

  -- ---- without the births it is the table

  -- an entry is put
  keep_entries : (n : ℕ) (a : A) (l : List (ℕ × A)) → map (λ e. e.1) (keep n a l) ≡ put_at (index_of (has key same (key a)) (map (λ e. e.1) l)) a (map (λ e. e.1) l)
  keep_entries n a [] = refl
  keep_entries n a (e ∷ l) = go (holds (key a) e) (keep_entries n a l)
    where
      rest : List A
      rest = map (λ x. x.1) l

      go : (b : Bool) → map (λ x. x.1) (keep n a l) ≡ put_at (index_of (has key same (key a)) rest) a rest
          → map (λ x. x.1) (cond b ((e.0, a) ∷ l) (e ∷ keep n a l)) ≡ put_at (cond b 0 (suc (index_of (has key same (key a)) rest))) a (e.1 ∷ rest)
      go true r = refl
      go false r = ap (λ (k : List A). e.1 ∷ k) r

  -- entries are taken out
  drop_entries : (k : K) (l : List (ℕ × A)) → map (λ e. e.1) (unless (holds k) l) ≡ unless (has key same k) (map (λ e. e.1) l)
  drop_entries k [] = refl
  drop_entries k (e ∷ l) = go (holds k e) (drop_entries k l)
    where
      go : (b : Bool) → map (λ x. x.1) (unless (holds k) l) ≡ unless (has key same k) (map (λ x. x.1) l)
          → map (λ x. x.1) (cond b (unless (holds k) l) (e ∷ unless (holds k) l)) ≡ cond b (unless (has key same k) (map (λ x. x.1) l)) (e.1 ∷ unless (has key same k) (map (λ x. x.1) l))
      go true r = r
      go false r = ap (λ (m : List A). e.1 ∷ m) r

  -- what one event leaves, where it had room
  pub step_entries : (room : ℕ) (v : Event A K) (l : List (ℕ × A)) (m : List A) → step key same room v (map (λ e. e.1) l) ≡ some m → m ≡ map (λ e. e.1) (keep_step v l)
  step_entries room clear l m e = sym (option_some_injective [] m e)
  step_entries room (put n a) l m e = go (ltb (index_of (has key same (key a)) (map (λ x. x.1) l)) room) e
    where
      go : (b : Bool) → cond b (some (put_at (index_of (has key same (key a)) (map (λ x. x.1) l)) a (map (λ x. x.1) l))) none ≡ some m → m ≡ map (λ x. x.1) (keep n a l)
      go true e = sym (option_some_injective _ m e) ∙ sym (keep_entries n a l)
      go false e = absurd (option_none_ne_some m e)
  step_entries room (remove k) l m e = sym (option_some_injective _ m e) ∙ sym (drop_entries k l)

  -- what all events leave, where they had room
  pub after_entries : (room : ℕ) (es : List (Event A K)) (l : List (ℕ × A)) (m : List A) → after key same room es (map (λ e. e.1) l) ≡ some m → m ≡ map (λ e. e.1) (keep_on es l)
  after_entries room [] l m e = sym (option_some_injective _ m e)
  after_entries room (v ∷ es) l m e = go (step key same room v (map (λ x. x.1) l)) refl e (after_entries room es (keep_step v l) m)
    where
      go : (o : Option (List A)) → step key same room v (map (λ x. x.1) l) ≡ o → and_then o (in_turn (step key same room) es) ≡ some m
          → (after key same room es (map (λ x. x.1) (keep_step v l)) ≡ some m → m ≡ map (λ x. x.1) (keep_on es (keep_step v l)))
          → m ≡ map (λ x. x.1) (keep_on es (keep_step v l))
      go none h e r = absurd (option_none_ne_some m e)
      go (some k) h e r = r (ap (after key same room es) (sym (step_entries room v l k h)) ∙ e)

  -- ---- one key

  module _ (d : Decides same) where
    -- entries of one key have the same keys
    has_like : (κ : K) (a b : A) → has key same (key a) b ≡ true → has key same κ b ≡ has key same κ a
    has_like κ a b h = ap (λ k. same k κ) (d.are (key b) (key a) h)

    -- entries that have a key have the same one
    has_both : (κ : K) (a b : A) → has key same κ a ≡ true → has key same κ b ≡ true → has key same (key a) b ≡ true
    has_both κ a b p q = ap₂ same (d.are (key b) κ q) (d.are (key a) κ p) ∙ d.itself κ

    -- what is found after an entry was put
    find_keep : (κ : K) (n : ℕ) (a : A) (l : List (ℕ × A)) → find (holds κ) (keep n a l) ≡ cond (has key same κ a) (some (birth n (find (holds κ) l), a)) (find (holds κ) l)
    find_keep κ n a [] = refl
    find_keep κ n a (e ∷ l) = go (holds (key a) e) refl (holds κ e) refl (has key same κ a) refl (find_keep κ n a l)
      where
        go : (b : Bool) → holds (key a) e ≡ b → (c : Bool) → holds κ e ≡ c → (t : Bool) → has key same κ a ≡ t
            → find (holds κ) (keep n a l) ≡ cond t (some (birth n (find (holds κ) l), a)) (find (holds κ) l)
            → find (holds κ) (cond b ((e.0, a) ∷ l) (e ∷ keep n a l)) ≡ cond t (some (birth n (cond c (some e) (find (holds κ) l)), a)) (cond c (some e) (find (holds κ) l))
        go true p true q true r i = rw r
        go true p true q false r i = absurd (clash q (has_like κ a e.1 p ∙ r))
        go true p false q true r i = absurd (clash r (sym (has_like κ a e.1 p) ∙ q))
        go true p false q false r i = rw r
        go false p true q true r i = absurd (clash (has_both κ a e.1 r q) p)
        go false p true q false r i = rw q
        go false p false q true r i = rw q i
        go false p false q false r i = rw q i

    -- and after entries were taken out
    find_drop : (κ k : K) (l : List (ℕ × A)) → find (holds κ) (unless (holds k) l) ≡ cond (same κ k) none (find (holds κ) l)
    find_drop κ k [] = sym (either_way (same κ k) none)
    find_drop κ k (e ∷ l) = go (holds k e) refl (holds κ e) refl (same κ k) refl (find_drop κ k l)
      where
        go : (b : Bool) → holds k e ≡ b → (c : Bool) → holds κ e ≡ c → (t : Bool) → same κ k ≡ t
            → find (holds κ) (unless (holds k) l) ≡ cond t none (find (holds κ) l)
            → find (holds κ) (cond b (unless (holds k) l) (e ∷ unless (holds k) l)) ≡ cond t none (cond c (some e) (find (holds κ) l))
        go true p true q true r i = i
        go true p true q false r i = absurd (clash (ap (λ x. same x k) (sym (d.are (key e.1) κ q)) ∙ p) r)
        go true p false q true r i = i
        go true p false q false r i = i
        go false p true q true r i = absurd (clash (ap₂ same (d.are (key e.1) κ q) (sym (d.are κ k r)) ∙ d.itself κ) p)
        go false p true q false r i = rw q
        go false p false q true r i = rw q i
        go false p false q false r i = rw q i

    -- one event more
    look_keep : (κ : K) (v : Event A K) (l : List (ℕ × A)) → look_step key same κ v (find (holds κ) l) ≡ find (holds κ) (keep_step v l)
    look_keep κ clear l = refl
    look_keep κ (put n a) l = sym (find_keep κ n a l)
    look_keep κ (remove k) l = sym (find_drop κ k l)

    -- all events: what looking finds is what stands in the table with that key
    pub look_kept : (κ : K) (es : List (Event A K)) (l : List (ℕ × A)) → look_on key same κ es (find (holds κ) l) ≡ find (holds κ) (keep_on es l)
    look_kept κ [] l = refl
    look_kept κ (v ∷ es) l = ap (look_on key same κ es) (look_keep κ v l) ∙ look_kept κ es (keep_step v l)

    -- "after any events that had room, what is found of a key is the entry with that key, or none"
    pub look_is : (room : ℕ) (es : List (Event A K)) (l : List A) (κ : K) → after key same room es [] ≡ some l → entry (look key same κ es) ≡ find (has key same κ) l
    look_is room es l κ e =
        ap entry (look_kept κ es [])
        ∙ find_entry (has key same κ) (keep_on es [])
        ∙ ap (find (has key same κ)) (sym (after_entries room es [] l e))

    -- what is found stands where its key is first found in the table
    pub look_at : (room : ℕ) (es : List (Event A K)) (l : List A) (κ : K) (b : ℕ) (a x : A) → after key same room es [] ≡ some l → look key same κ es ≡ some (b, a) → get_or l (index_of (has key same κ) l) x ≡ a
    look_at room es l κ b a x e h = find_at (has key same κ) l a x (sym (look_is room es l κ e) ∙ ap entry h)

    -- nothing is found exactly if no entry has the key
    pub look_none : (room : ℕ) (es : List (Event A K)) (l : List A) (κ : K) → after key same room es [] ≡ some l → (look key same κ es ≡ none) ↔ All (λ a. has key same κ a ≡ false) l
    look_none room es l κ e = (
      λ h. index_end (has key same κ) l (find_index (has key same κ) l (ap found (sym (look_is room es l κ e) ∙ ap entry h))),
      λ h. no_entry (look key same κ es) (look_is room es l κ e ∙ find_absent (has key same κ) l h),
    )
