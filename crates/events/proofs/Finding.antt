-- Entries found in a list, and what putting one and taking some out changes. Assumes nothing.
use Rattle.lists.proofs.Kit.{ℕ, suc, ◌+◌, ◌≤◌, ◌<◌, ◌≡◌, refl, sym, ap, ◌∙◌, Bool, true, false, cond, true≢false, List, [], ◌∷◌, map, none, some, option_some_injective, option_none_ne_some, arith, length, get_or}
use Rattle.lists.specs.Every.{All}
use Rattle.slots.specs.Slots.{unless, index_of, put_at}
use Rattle.slots.proofs.Changes.{unless_absent}
use Rattle.events.specs.Events.{find, found, entry, weight, total}

-- a test does not say both
pub clash : {b : Bool} → b ≡ true → b ≡ false → ⊥
clash p q = true≢false (sym p ∙ q)

-- what is chosen either way
pub either_way : {X : Type 0} (b : Bool) (x : X) → cond b x x ≡ x
either_way true x = refl
either_way false x = refl

module _ {A : Type 0} (p : A → Bool) where
  -- ---- found

  -- what is found has what was asked for
  pub find_has : (l : List A) (a : A) → find p l ≡ some a → p a ≡ true
  find_has [] a e = absurd (option_none_ne_some a e)
  find_has (x ∷ l) a e = go (p x) refl e (find_has l a)
    where
      go : (b : Bool) → p x ≡ b → cond b (some x) (find p l) ≡ some a → (find p l ≡ some a → p a ≡ true) → p a ≡ true
      go true h e r = ap p (sym (option_some_injective x a e)) ∙ h
      go false h e r = r e

  -- and what all entries have
  pub find_all : (P : A → Type 0) (l : List A) (a : A) → All P l → find p l ≡ some a → P a
  find_all P [] a h e = absurd (option_none_ne_some a e)
  find_all P (x ∷ l) a h e = go (p x) e (find_all P l a h.1)
    where
      go : (b : Bool) → cond b (some x) (find p l) ≡ some a → (find p l ≡ some a → P a) → P a
      go true e r = rw (option_some_injective x a e) at h.0
      go false e r = r e

  -- nothing is found where the place that is looked for is behind the last
  pub find_index : (l : List A) → found (find p l) ≡ false → index_of p l ≡ length l
  find_index [] e = refl
  find_index (x ∷ l) e = go (p x) e (find_index l)
    where
      go : (b : Bool) → found (cond b (some x) (find p l)) ≡ false → (found (find p l) ≡ false → index_of p l ≡ length l) → cond b 0 (suc (index_of p l)) ≡ suc (length l)
      go true e r = absurd (true≢false e)
      go false e r = ap suc (r e)

  -- something is found where it is not
  pub find_inside : (l : List A) → found (find p l) ≡ true → index_of p l < length l
  find_inside [] e = absurd (true≢false (sym e))
  find_inside (x ∷ l) e = go (p x) e (find_inside l)
    where
      go : (b : Bool) → found (cond b (some x) (find p l)) ≡ true → (found (find p l) ≡ true → index_of p l < length l) → cond b 0 (suc (index_of p l)) < suc (length l)
      go true e r = omega arith
      go false e r = let h = r e in omega arith

  -- and it stands in that place
  pub find_at : (l : List A) (a d : A) → find p l ≡ some a → get_or l (index_of p l) d ≡ a
  find_at [] a d e = absurd (option_none_ne_some a e)
  find_at (x ∷ l) a d e = go (p x) e (find_at l a d)
    where
      go : (b : Bool) → cond b (some x) (find p l) ≡ some a → (find p l ≡ some a → get_or l (index_of p l) d ≡ a) → get_or (x ∷ l) (cond b 0 (suc (index_of p l))) d ≡ a
      go true e r = option_some_injective x a e
      go false e r = r e

  -- where p says no of every entry, none is found
  pub find_absent : (l : List A) → All (λ x. p x ≡ false) l → find p l ≡ none
  find_absent [] h = refl
  find_absent (x ∷ l) h = rw h.0 (find_absent l h.1)

  -- ---- how much there is

  -- an entry takes the place of the one that is found, or is one more
  pub total_put : (size : A → ℕ) (a : A) (l : List A) → total size (put_at (index_of p l) a l) + weight size (find p l) ≡ total size l + size a
  total_put size a [] = omega arith
  total_put size a (x ∷ l) = go (p x) (total_put size a l)
    where
      go : (b : Bool) → total size (put_at (index_of p l) a l) + weight size (find p l) ≡ total size l + size a
          → total size (put_at (cond b 0 (suc (index_of p l))) a (x ∷ l)) + weight size (cond b (some x) (find p l)) ≡ size x + total size l + size a
      go true r = omega arith
      go false r = omega arith

  -- what is found takes no more than all do
  pub find_weight : (size : A → ℕ) (l : List A) → weight size (find p l) ≤ total size l
  find_weight size [] = omega arith
  find_weight size (x ∷ l) = go (p x) (find_weight size l)
    where
      go : (b : Bool) → weight size (find p l) ≤ total size l → weight size (cond b (some x) (find p l)) ≤ size x + total size l
      go true r = omega arith
      go false r = omega arith

  -- p says yes of one entry at most
  abbrev pub Lone : List A → Type 0
  Lone [] = Unit {0}
  Lone (x ∷ l) = (p x ≡ true → All (λ y. p y ≡ false) l) × Lone l

  -- the one that is found goes
  pub total_drop : (size : A → ℕ) (l : List A) → Lone l → total size (unless p l) + weight size (find p l) ≡ total size l
  total_drop size [] h = omega arith
  total_drop size (x ∷ l) h = go (p x) refl (total_drop size l h.1)
    where
      go : (b : Bool) → p x ≡ b → total size (unless p l) + weight size (find p l) ≡ total size l
          → total size (cond b (unless p l) (x ∷ unless p l)) + weight size (cond b (some x) (find p l)) ≡ size x + total size l
      go true e r = rw (unless_absent p l (h.0 e)) (omega arith)
      go false e r = omega arith

-- entries of one each are counted
pub total_ones : {A : Type 0} (l : List A) → total (λ a. 1) l ≡ length l
total_ones [] = refl
total_ones (x ∷ l) = omega (arith, total_ones l)

-- entries that were found with what they were born with
pub find_entry : {A : Type 0} (p : A → Bool) (l : List (ℕ × A)) → entry (find (λ e. p e.1) l) ≡ find p (map (λ e. e.1) l)
find_entry p [] = refl
find_entry {A} p (x ∷ l) = go (p x.1) (find_entry p l)
  where
    go : (b : Bool) → entry (find (λ e. p e.1) l) ≡ find p (map (λ e. e.1) l)
        → entry (cond b (some x) (find (λ e. p e.1) l)) ≡ cond b (some x.1) (find p (map (λ e. e.1) l))
    go true r = refl
    go false r = r
