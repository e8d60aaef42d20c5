-- The order of a list of keys: the laws that a reader asks for, and what a new, an overwritten and a removed key do to it. Assumes nothing.
use Prim.Native.Nat.{ℕ, zero, suc, ◌-◌, ◌≤◌, ◌<◌}
use mathlib.Core.Path.{◌≡◌, refl, sym, ap, ap₂, ◌∙◌, subst}
use mathlib.Core.Bool.{Bool, true, false, cond}
use mathlib.Core.List.{List, [], ◌∷◌, ◌++◌, map}
use native.Mathlib.Omega.{arith}
use native.Mathlib.Nat.{not-suc-le-zero, le_of_suc-le-suc}
use borrow.Author.Tests.{ltb-true, ltb-false, lt-ltb, le-ltb}
use lib.Dec.{ltb}
use lib.ListN.{length, get_or, set, take, drop, length-append, length-drop, length-map, get_or-append}
use lib.Seq.{map-set_same, length-take-le}
use Rattle.lists.specs.Every.{All}
use Rattle.lists.proofs.Every.{all_get}
use Rattle.lists.proofs.Seqs.{get_d_map}
use Rattle.slots.specs.Slots.{same?, unless, index_of, put_at, pad}
use Rattle.slots.proofs.Runs.{same_refl, same_not}
use Rattle.counted_lists.specs.Counted.{Distinct}
use Rattle.orders.specs.Orders.{before, insert, order_of, order, key_in, times, Ascends, DistinctKeys, Ordered, lift, without}
use Rattle.orders.proofs.Before.{key_bytes_before}
use Rattle.orders.proofs.Times.{times_none}
use Rattle.orders.proofs.Laws.{order_of_ordered, order_of_same, order_of_alike, order_of_drop, ordered_to_one, ordered_distinct}

module _ (keys : List (List ℕ)) where
  -- the order is one
  pub order_ordered : DistinctKeys keys → Ordered keys (order keys)
  order_ordered d = order_of_ordered (key_in keys) (length keys) d

  -- and the only one
  pub ordered_one : (ps qs : List ℕ) → Ordered keys ps → Ordered keys qs → ps ≡ qs
  ordered_one ps qs a b = ordered_to_one (key_in keys) (length keys) ps qs a b

  -- each position in use stands in it once, and no other does
  pub order_permutes : DistinctKeys keys → (p : ℕ) → times p (order keys) ≡ cond (ltb p (length keys)) 1 0
  order_permutes d p = go (ltb p (length keys)) refl
    where
      go : (c : Bool) → ltb p (length keys) ≡ c → times p (order keys) ≡ cond c 1 0
      go true t = (order_ordered d).once p (ltb-true p (length keys) t)
      go false t = let l : length keys ≤ p = ltb-false p (length keys) t in times_none (λ q. q < length keys) p (order keys) (order_ordered d).only (λ m. omega arith)

  -- each key stands before all that follow
  pub order_ascends : DistinctKeys keys → Ascends (key_in keys) (order keys)
  order_ascends d = (order_ordered d).ascends

  -- as many positions in use as there are keys, by strictly ascending keys: the keys are distinct, and the positions are in order
  pub ascending_ordered : (ps : List ℕ) → length ps ≡ length keys → All (λ p. p < length keys) ps → Ascends (key_in keys) ps → DistinctKeys keys × Ordered keys ps
  ascending_ordered ps l b a = ordered_distinct (key_in keys) (length keys) ps l b a

  -- a new key at the end: its position is put in
  pub order_append : (k : List ℕ) → order (keys ++ (k ∷ [])) ≡ insert (key_in (keys ++ (k ∷ []))) (length keys) (order keys)
  order_append k =
      let at = key_in (keys ++ (k ∷ [])) in
      let l : length (keys ++ (k ∷ [])) ≡ suc (length keys) = length-append keys (k ∷ []) ∙ (omega arith) in
      ap (order_of at) l ∙ ap (insert at (length keys)) (order_of_same at (key_in keys) (length keys) (λ p h. get_or-append keys (k ∷ []) [] p h))

-- an entry overwritten by one with its key: the same order
pub order_overwrite : {A : Type 0} (key : A → List ℕ) (xs : List A) (p : ℕ) (x d : A) → key x ≡ key (get_or xs p d) → order (map key (set xs p x)) ≡ order (map key xs)
order_overwrite key xs p x d e = ap order (map-set_same key xs p x d e)

-- where a position stood, one further
lift_suc : (p q : ℕ) → lift (suc p) (suc q) ≡ suc (lift p q)
lift_suc p q = go (ltb q p) refl
  where
    go : (c : Bool) → ltb q p ≡ c → lift (suc p) (suc q) ≡ suc (lift p q)
    go true e = let l : q < p = ltb-true q p e in rw (e, lt-ltb (suc q) (suc p) (omega arith))
    go false e = let l : p ≤ q = ltb-false q p e in rw (e, le-ltb (suc q) (suc p) (omega arith))

-- the keys without that in place p
gone_key : (keys : List (List ℕ)) (p q : ℕ) → p < length keys → key_in (take p keys ++ drop (suc p) keys) q ≡ key_in keys (lift p q)
gone_key [] p q h = absurd (not-suc-le-zero h)
gone_key (x ∷ keys) zero q h = rw (le-ltb q 0 (omega arith))
gone_key (x ∷ keys) (suc p) zero h = rw (lt-ltb 0 (suc p) (omega arith))
gone_key (x ∷ keys) (suc p) (suc q) h = gone_key keys p q (le_of_suc-le-suc h) ∙ ap (key_in (x ∷ keys)) (sym (lift_suc p q))

-- the order of the keys that stay, said of the old ones
pub order_gone : (keys : List (List ℕ)) (p n : ℕ) → length keys ≡ suc n → p ≤ n → order (take p keys ++ drop (suc p) keys) ≡ order_of (λ q. key_in keys (lift p q)) n
order_gone keys p n e h =
    let a : length (take p keys) ≡ p = length-take-le p keys (omega arith) in
    let l : length (take p keys ++ drop (suc p) keys) ≡ n = omega (arith, length-append (take p keys) (drop (suc p) keys), length-drop (suc p) keys) in
    ap (order_of (key_in (take p keys ++ drop (suc p) keys))) l
    ∙ order_of_same (key_in (take p keys ++ drop (suc p) keys)) (λ q. key_in keys (lift p q)) n (λ q k. gone_key keys p q (omega arith))

-- the key in place p gone: its position left out, and what is above it lowered
pub order_drop : (keys : List (List ℕ)) (p : ℕ) → DistinctKeys keys → p < length keys → order (take p keys ++ drop (suc p) keys) ≡ without p (order keys)
order_drop keys p d h = go (length keys - 1) (omega arith)
  where
    go : (n : ℕ) → length keys ≡ suc n → order (take p keys ++ drop (suc p) keys) ≡ without p (order keys)
    go n e =
        order_gone keys p n e (omega arith)
        ∙ sym (order_of_drop (key_in keys) n p (λ x y i j f. d x y (omega arith) (omega arith) f) (omega arith))
        ∙ ap (λ (m : ℕ). without p (order_of (key_in keys) m)) (sym e)

-- ---- entries with distinct keys

-- the entries behind the first
distinct_rest : (k : List ℕ) (keys : List (List ℕ)) → DistinctKeys (k ∷ keys) → DistinctKeys keys
distinct_rest k keys d p q h l e = let i : suc p ≡ suc q = d (suc p) (suc q) (omega arith) (omega arith) e in omega arith

-- none of them has the first one's key
distinct_first : (k : List ℕ) (keys : List (List ℕ)) → DistinctKeys (k ∷ keys) → (p : ℕ) → p < length keys → key_in keys p ≡ k → ⊥
distinct_first k keys d p h e = let i : suc p ≡ 0 = d (suc p) 0 (omega arith) (omega arith) e in omega arith

module _ {A : Type 0} (key : A → List ℕ) where
  -- the same said place by place
  none_has : (x : List ℕ) (es : List A) → All (λ a. key a ≡ x → ⊥) es → (p : ℕ) → p < length es → key_in (map key es) p ≡ x → ⊥
  none_has x [] u p h e = not-suc-le-zero h
  none_has x (a ∷ es) u zero h e = u.0 e
  none_has x (a ∷ es) u (suc p) h e = none_has x es u.1 p (le_of_suc-le-suc h) e

  pub all_none : (x : List ℕ) (es : List A) → ((p : ℕ) → p < length es → key_in (map key es) p ≡ x → ⊥) → All (λ a. key a ≡ x → ⊥) es
  all_none x [] h = tt
  all_none x (a ∷ es) h = (h 0 (omega arith), all_none x es (λ p l. h (suc p) (omega arith)))

  pub apart_distinct : (es : List A) → Distinct key es → DistinctKeys (map key es)
  apart_distinct [] u p q h l e = absurd (not-suc-le-zero h)
  apart_distinct (a ∷ es) u zero zero h l e = refl
  apart_distinct (a ∷ es) u zero (suc q) h l e = absurd (none_has (key a) es u.0 q (omega (arith, length-map es key)) (sym e))
  apart_distinct (a ∷ es) u (suc p) zero h l e = absurd (none_has (key a) es u.0 p (omega (arith, length-map es key)) e)
  apart_distinct (a ∷ es) u (suc p) (suc q) h l e = ap suc (apart_distinct es u.1 p q (le_of_suc-le-suc h) (le_of_suc-le-suc l) e)

  pub distinct_apart : (es : List A) → DistinctKeys (map key es) → Distinct key es
  distinct_apart [] d = tt
  distinct_apart (a ∷ es) d = (all_none (key a) es (λ p h. distinct_first (key a) (map key es) d p (omega (arith, length-map es key))), distinct_apart es (distinct_rest (key a) (map key es) d))

  -- taking a key out that none has leaves all
  pub unless_none : (x : List ℕ) (es : List A) → ((p : ℕ) → p < length es → key_in (map key es) p ≡ x → ⊥) → unless (λ a. same? (key a) x) es ≡ es
  unless_none x [] h = refl
  unless_none x (a ∷ es) h = rw (same_not (key a) x (h 0 (omega arith))) (ap (λ (l : List A). a ∷ l) (unless_none x es (λ p l. h (suc p) (omega arith))))

  -- taking the key of entry p out takes entry p out
  pub unless_one : (x : List ℕ) (es : List A) (p : ℕ) → DistinctKeys (map key es) → p < length es → key_in (map key es) p ≡ x → unless (λ a. same? (key a) x) es ≡ take p es ++ drop (suc p) es
  unless_one x [] p d h e = absurd (not-suc-le-zero h)
  unless_one x (a ∷ es) zero d h e =
      let t : same? (key a) x ≡ true = subst (λ (y : List ℕ). same? (key a) y ≡ true) e (same_refl (key a)) in
      rw t (unless_none x es (λ p l i. distinct_first (key a) (map key es) d p (omega (arith, length-map es key)) (i ∙ sym e)))
  unless_one x (a ∷ es) (suc p) d h e =
      let n : same? (key a) x ≡ false = same_not (key a) x (λ i. distinct_first (key a) (map key es) d p (omega (arith, length-map es key)) (e ∙ sym i)) in
      rw n (ap (λ (l : List A). a ∷ l) (unless_one x es p (distinct_rest (key a) (map key es) d) (le_of_suc-le-suc h) e))

  -- entry p is the one that a search for its key finds
  pub index_one : (x : List ℕ) (es : List A) (p : ℕ) → DistinctKeys (map key es) → p < length es → key_in (map key es) p ≡ x → index_of (λ a. same? (key a) x) es ≡ p
  index_one x [] p d h e = absurd (not-suc-le-zero h)
  index_one x (a ∷ es) zero d h e = let t : same? (key a) x ≡ true = subst (λ (y : List ℕ). same? (key a) y ≡ true) e (same_refl (key a)) in rw t
  index_one x (a ∷ es) (suc p) d h e =
      let n : same? (key a) x ≡ false = same_not (key a) x (λ i. distinct_first (key a) (map key es) d p (omega (arith, length-map es key)) (e ∙ sym i)) in
      rw n (ap suc (index_one x es p (distinct_rest (key a) (map key es) d) (le_of_suc-le-suc h) e))

  -- an entry put over one with its key leaves the keys as they are, and so their order
  pub keys_overwritten : (es : List A) (p : ℕ) (a : A) → p < length es → key a ≡ key_in (map key es) p → map key (put_at p a es) ≡ map key es
  keys_overwritten [] p a h e = absurd (not-suc-le-zero h)
  keys_overwritten (x ∷ es) zero a h e = ap (λ (l : List ℕ). l ∷ map key es) e
  keys_overwritten (x ∷ es) (suc p) a h e = ap (λ (l : List (List ℕ)). key x ∷ l) (keys_overwritten es p a (le_of_suc-le-suc h) e)

-- ---- numbers kept as bytes

-- a number's key: its type, and its digits
abbrev pub plain : ℕ × List ℕ → List ℕ
plain a = a.0 ∷ a.1

-- the bytes that keep it: the type, each digit one more than itself, and zeros up to n digits
abbrev pub kept : ℕ → ℕ × List ℕ → List ℕ
kept n a = a.0 ∷ pad 0 n (map suc a.1)

-- the key in a place is that of the number there
kept_in : {A : Type 0} (key : A → List ℕ) (es : List A) (d : A) (p : ℕ) → p < length es → key_in (map key es) p ≡ key (get_or es p d)
kept_in key es d p h = get_d_map key es p d [] h

-- the order of the kept bytes is the order by type, then by digits from the left, a shorter number before a longer one that starts with it
pub order_kept : (n : ℕ) (es : List (ℕ × List ℕ)) → All (λ a. length a.1 ≤ n) es → order (map (kept n) es) ≡ order (map plain es)
order_kept n es u =
    let a : length (map (kept n) es) ≡ length es = length-map es (kept n) in
    let b : length (map plain es) ≡ length es = length-map es plain in
    ap (order_of (key_in (map (kept n) es))) a
    ∙ order_of_alike (key_in (map (kept n) es)) (key_in (map plain es)) (length es) alike
    ∙ ap (order_of (key_in (map plain es))) (sym b)
  where
    alike : (p q : ℕ) → p < length es → q < length es → before (key_in (map (kept n) es) p) (key_in (map (kept n) es) q) ≡ before (key_in (map plain es) p) (key_in (map plain es) q)
    alike p q h l =
        let x = get_or es p (0, []) in
        let y = get_or es q (0, []) in
        ap₂ (λ (c d : List ℕ). before c d) (kept_in (kept n) es (0, []) p h) (kept_in (kept n) es (0, []) q l)
        ∙ key_bytes_before n x.0 y.0 x.1 y.1 (all_get (λ a. length a.1 ≤ n) es p (0, []) u h) (all_get (λ a. length a.1 ≤ n) es q (0, []) u l)
        ∙ sym (ap₂ (λ (c d : List ℕ). before c d) (kept_in plain es (0, []) p h) (kept_in plain es (0, []) q l))
