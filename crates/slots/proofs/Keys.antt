-- Entries of a list table that a search finds: where they stand. Assumes nothing.
use Rattle.lists.proofs.Kit.{◌≡◌, sym, ap, ◌∙◌, Bool, true, false, ◌||◌, cond, true≢false, or-true, List, [], ◌∷◌, map, ℕ, zero, suc, ◌+◌, ◌*◌, ◌≤◌, ◌<◌, not-suc-le-zero, le_of_suc-le-suc, suc-mul, zero-mul, arith, length, drop, take, replicate}
use Rattle.lists.specs.Every.{All}
use Rattle.lists.proofs.Every.{all_turn}
use Rattle.lists.proofs.Bools.{is_false, or_rest}
use Rattle.slots.specs.Slots.{slot, front, bytes_before, zeros?, same?, hit, fit, index_of, Listed, KeyAt, Found}
use Rattle.slots.proofs.Runs.{zeros_all, zeros_part}
use Rattle.slots.proofs.Tables.{index_none, table_slots}

-- a search among the slots of a list table is a search among its entries
front_search : {A : Type 0} (w : ℕ) (f : A → List ℕ) → ((a : A) → length (f a) ≡ w) → (p : List ℕ → Bool) (e : A → Bool) → p (replicate w 0) ≡ true → (n : ℕ) (ls : List A) → All (λ a. p (f a) ≡ e a) ls → length ls ≤ n → bytes_before p (map (slot w f) (front n ls)) ≡ index_of e ls * w
front_search w f long p e z zero [] q h = sym (zero-mul w)
front_search w f long p e z zero (a ∷ ls) q h = absurd (not-suc-le-zero h)
front_search w f long p e z (suc n) [] q h = rw z (sym (zero-mul w))
front_search w f long p e z (suc n) (a ∷ ls) q h = rw q.0 (go (e a) (front_search w f long p e z n ls q.1 (le_of_suc-le-suc h)))
  where
    go : (b : Bool) → bytes_before p (map (slot w f) (front n ls)) ≡ index_of e ls * w → cond b 0 (length (f a) + bytes_before p (map (slot w f) (front n ls))) ≡ cond b 0 (suc (index_of e ls)) * w
    go true r = sym (zero-mul w)
    go false r = omega (arith, long a, r, suc-mul (index_of e ls) w)

-- ---- the first free place

-- it stands behind the entries
pub used_at : {A : Type 0} (P : A → Type 0) (w : ℕ) (f : A → List ℕ) → ((a : A) → length (f a) ≡ w) → ((a : A) → P a → zeros? (f a) ≡ false) → 0 < w
    → (n : ℕ) (ls : List A) (s : List ℕ) → Listed P w f n ls s → (r : ℕ) → Found (0 < w) zeros? w s r → r ≡ length ls * w
used_at P w f long shown wide n ls s t r found =
    found.first wide (map (slot w f) (front n ls)) (table_slots w f long (front n ls)) t.bytes
    ∙ front_search w f long zeros? (λ a. false) (zeros_all w) n ls (all_turn P (λ a. zeros? (f a) ≡ false) shown ls t.each) t.few
    ∙ ap (λ (k : ℕ). k * w) (index_none ls)

-- ---- entries with a key

-- entries that have P are w bytes, and have their key, which is m bytes and not all zeros, at o
pub record Keyed {A : Type 0} (P : A → Type 0) (w : ℕ) (f : A → List ℕ) (o m : ℕ) (key : A → List ℕ) : Type 0 where
  pub wide : 0 < w
  pub inside : o + m ≤ w
  pub long : (a : A) → length (f a) ≡ w
  pub key_long : (a : A) → length (key a) ≡ m
  pub stands : (a : A) → take m (drop o (f a)) ≡ key a
  pub shown : (a : A) → P a → zeros? (key a) ≡ false

module _ {A : Type 0} (P : A → Type 0) (w : ℕ) (f : A → List ℕ) (o m : ℕ) (key : A → List ℕ) (d : Keyed P w f o m key) where
  -- an entry with a key is not all zeros
  pub keyed_shown : (a : A) → P a → zeros? (f a) ≡ false
  keyed_shown a p = is_false (zeros? (f a)) (λ z. true≢false (sym (zeros_part o m (f a) z) ∙ ap zeros? (d.stands a) ∙ d.shown a p))

  -- e says which entries have the key k
  module _ (k : List ℕ) (l : length k ≡ m) (e : A → Bool) (is : (a : A) → P a → same? (key a) k ≡ e a) (n : ℕ) (ls : List A) (s : List ℕ) (t : Listed P w f n ls s) where
    -- the slots that fit are those whose entries have it
    fits : (a : A) → P a → fit o k (f a) ≡ e a
    fits a p =
        or_rest (hit o k (f a)) (zeros? (f a)) (keyed_shown a p) ∙ ap (λ (i : ℕ). same? (take i (drop o (f a))) k) l ∙ ap (λ (x : List ℕ). same? x k) (d.stands a) ∙ is a p

    -- the first slot that fits is the place of the first entry that has it, or the first free one
    pub key_at : (r : ℕ) → Found (KeyAt w o k) (fit o k) w s r → r ≡ index_of e ls * w
    key_at r found =
        found.first (record { wide = d.wide; inside = omega (arith, d.inside) }) (map (slot w f) (front n ls)) (table_slots w f d.long (front n ls)) t.bytes
        ∙ front_search w f d.long (fit o k) e (ap (λ (b : Bool). hit o k (replicate w 0) || b) (zeros_all w) ∙ or-true (hit o k (replicate w 0))) n ls
        (all_turn P (λ a. fit o k (f a) ≡ e a) fits ls t.each) t.few

-- ---- a key whose length was said

-- a search with the key's true length is a search with the key
pub found_known : (w o n : ℕ) (key s : List ℕ) (p : List ℕ → Bool) (r : ℕ) → length key ≡ n → Found (KeyAt w o key × (length key ≡ n)) p w s r → Found (KeyAt w o key) p w s r
found_known w o n key s p r e f = record { within = f.within; first = λ k. f.first (k, e); cannot = λ h. f.cannot (λ k. h k.0) }
