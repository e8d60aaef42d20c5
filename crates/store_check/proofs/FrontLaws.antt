-- A list table is a table of places of which the empty ones stand at the end: where the first empty slot starts, zeros begin. Assumes nothing.
use Rattle.lists.proofs.Kit.{◌≡◌, refl, sym, ap, ◌∙◌, subst, true, false, ◌↔◌, Option, none, some, List, [], ◌∷◌, ◌++◌, map, ℕ, zero, suc, ◌+◌, ◌*◌, ◌-◌, ◌≤◌, ◌<◌, not-suc-le-zero, le_of_suc-le-suc, zero-mul, length, drop, take_at, drop_at, drop-append-add}
use Rattle.lists.specs.Every.{All}
use Rattle.slots.specs.Slots.{slot, places, front, zeros?, bytes_before, Present, PlacesOf, ListOf, Found}
use Rattle.slots.proofs.Runs.{zeros_all}
use Rattle.slots.proofs.Tables.{all_front, front_length, front_nil, places_length, places_nil, table_slots}
use Rattle.slots.proofs.Walks.{list_none, list_cons}

-- a list table is a table of places
pub list_places : {A : Type 0} (P : A → Type 0) (w : ℕ) (f : A → List ℕ) (n : ℕ) (s : List ℕ) → ListOf P w f n s → PlacesOf P w f n s
list_places P w f n s t = record { entries = front n t.entries; placed = record { many = front_length n t.entries; each = all_front P n t.entries t.listed.each; bytes = t.listed.bytes } }

-- how many bytes stand before the first empty place
abbrev before : {A : Type 0} → ℕ → (A → List ℕ) → List (Option A) → ℕ
before w f os = bytes_before zeros? (map (slot w f) os)

module _ {A : Type 0} (P : A → Type 0) (w : ℕ) (f : A → List ℕ) (long : (a : A) → length (f a) ≡ w) (shown : (a : A) → P a → zeros? (f a) ≡ false) where
  -- an empty first place is the first
  before_none : (os : List (Option A)) → before w f (none ∷ os) ≡ 0
  before_none os = rw (zeros_all w)

  -- places of which all are empty from the first empty one on are a list's
  front_made : (os : List (Option A)) → All (Present P) os → zeros? (drop (before w f os) (places w f os)) ≡ true → ListOf P w f (length os) (places w f os)
  front_made [] p z = list_none P w f 0 [] (sym (zero-mul w)) refl
  front_made (none ∷ os) p z =
      list_none P w f (suc (length os)) (places w f (none ∷ os)) (places_length w f long (none ∷ os))
      (ap (λ (k : ℕ). zeros? (drop k (places w f (none ∷ os)))) (sym (before_none os)) ∙ z)
  front_made (some a ∷ os) p z =
      let b : before w f (some a ∷ os) ≡ length (f a) + before w f os = (rw (shown a p.0)) in
      let d : drop (before w f (some a ∷ os)) (places w f (some a ∷ os)) ≡ drop (before w f os) (places w f os) = ap (λ (k : ℕ). drop k (f a ++ places w f os)) b ∙ drop-append-add (f a) (places w f os) (before w f os) in
      let r = front_made os p.1 (ap zeros? (sym d) ∙ z) in
      let u = take_at (f a) (places w f os) w (long a) in
      let v = drop_at (f a) (places w f os) w (long a) in
      list_cons P w f (length os) (f a ++ places w f os) (record { entry = a; holds = p.0; bytes = u }) (subst (ListOf P w f (length os)) (sym v) r)

  -- and a list's places are so
  front_kept : (n : ℕ) (ls : List A) → length ls ≤ n → All P ls → zeros? (drop (before w f (front n ls)) (places w f (front n ls))) ≡ true
  front_kept zero [] h p = refl
  front_kept zero (a ∷ ls) h p = absurd (not-suc-le-zero h)
  front_kept (suc n) [] h p =
      ap (λ (k : ℕ). zeros? (drop k (places w f (front (suc n) [])))) (before_none (front n []))
      ∙ ap (λ (os : List (Option A)). zeros? (places w f os)) (front_nil (suc n)) ∙ ap zeros? (places_nil w f (suc n)) ∙ zeros_all (suc n * w)
  front_kept (suc n) (a ∷ ls) h p =
      let b : before w f (front (suc n) (a ∷ ls)) ≡ length (f a) + before w f (front n ls) = (rw (shown a p.0)) in
      ap (λ (k : ℕ). zeros? (drop k (f a ++ places w f (front n ls)))) b
      ∙ ap zeros? (drop-append-add (f a) (places w f (front n ls)) (before w f (front n ls)))
      ∙ front_kept n ls (le_of_suc-le-suc h) p.1

  module _ (wide : 0 < w) (n : ℕ) (s : List ℕ) (r : ℕ) (found : Found (0 < w) zeros? w s r) where
    -- the search looked at the table's slots
    at_places : (os : List (Option A)) → s ≡ places w f os → r ≡ before w f os
    at_places os e = found.first wide (map (slot w f) os) (table_slots w f long os) e

    -- bytes are a list table where they are one of places with zeros from the first empty slot on
    pub front_is : (PlacesOf P w f n s × (zeros? (drop r s) ≡ true)) ↔ ListOf P w f n s
    front_is = (to, from)
      where
        to : PlacesOf P w f n s × (zeros? (drop r s) ≡ true) → ListOf P w f n s
        to (t, z) =
            let os = t.entries in
            let e : s ≡ places w f os = t.placed.bytes in
            let y : zeros? (drop (before w f os) (places w f os)) ≡ true = (rw (← (at_places os e), ← e) z) in
            subst (λ (m : ℕ). ListOf P w f m s) t.placed.many (subst (ListOf P w f (length os)) (sym e) (front_made os t.placed.each y))

        from : ListOf P w f n s → PlacesOf P w f n s × (zeros? (drop r s) ≡ true)
        from t =
            let ls = t.entries in
            let e : s ≡ places w f (front n ls) = t.listed.bytes in
            let y = front_kept n ls t.listed.few t.listed.each in
            (list_places P w f n s t, rw (at_places (front n ls) e, e) y)
