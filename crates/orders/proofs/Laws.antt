-- The order of positions by their keys: it is one, it is the only one, and how it changes with the keys. Assumes nothing.
use Prim.Native.Nat.{ℕ, zero, suc, ◌+◌, ◌-◌, ◌≤◌, ◌<◌}
use mathlib.Core.Path.{◌≡◌, refl, sym, ap, ap₂, ◌∙◌, subst}
use mathlib.Core.Bool.{Bool, true, false, cond, true≢false}
use mathlib.Core.List.{List, [], ◌∷◌, map}
use native.Mathlib.Omega.{arith}
use native.Mathlib.Nat.{not-suc-le-zero}
use borrow.Author.Tests.{ltb-true, ltb-false, eqb-true, eqb-false, lt-ltb, le-ltb, eq-eqb, ne_eqb}
use lib.Dec.{ltb, eqb}
use lib.ListN.{length}
use Rattle.lists.specs.Every.{All}
use Rattle.lists.proofs.Every.{all_turn}
use Rattle.slots.specs.Slots.{unless}
use Rattle.orders.specs.Orders.{before, insert, order_of, times, Ascends, DistinctTo, OrderedTo, lower, lift, without}
use Rattle.orders.proofs.Before.{before_not, before_some, before_trans, before_one_way}
use Rattle.orders.proofs.Times.{Head, head, rest, times_head, times_all, times_none, pigeonhole, once_length}

-- ---- ascending keys

-- a listed position is not before itself
ascends_once : (key : ℕ → List ℕ) (ps : List ℕ) → Ascends key ps → (p : ℕ) → times p ps ≤ 1
ascends_once key [] a p = omega arith
ascends_once key (x ∷ ps) a p = go (times_head p x ps) (ascends_once key ps a.1 p)
  where
    go : Head p x ps → times p ps ≤ 1 → times p (x ∷ ps) ≤ 1
    go (head i e) r =
        let z : times p ps ≡ 0 = times_none (λ q. before (key x) (key q) ≡ true) p ps a.0 (λ t. true≢false (sym t ∙ subst (λ (q : ℕ). before (key x) (key q) ≡ false) i (before_not (key x)))) in
        omega (arith, e, z)
    go (rest d e) r = omega (arith, e, r)

-- of two listed positions with one key the positions are one
ascends_distinct : (key : ℕ → List ℕ) (ps : List ℕ) → Ascends key ps → (p q : ℕ) → 0 < times p ps → 0 < times q ps → key p ≡ key q → p ≡ q
ascends_distinct key [] a p q h k e = absurd (not-suc-le-zero h)
ascends_distinct key (x ∷ ps) a p q h k e = go (times_head p x ps) (times_head q x ps) (ascends_distinct key ps a.1 p q)
  where
    P : ℕ → Type 0
    P y = before (key x) (key y) ≡ true

    -- the head's key is no later one's
    apart : (y : ℕ) → 0 < times y ps → key x ≡ key y → ⊥
    apart y l i = true≢false (sym (times_all P y ps a.0 l) ∙ subst (λ (z : List ℕ). before (key x) z ≡ false) i (before_not (key x)))

    go : Head p x ps → Head q x ps → (0 < times p ps → 0 < times q ps → key p ≡ key q → p ≡ q) → p ≡ q
    go (head i f) (head j g) r = sym i ∙ j
    go (head i f) (rest d g) r = absurd (apart q (subst (λ (n : ℕ). 0 < n) g k) (ap key i ∙ e))
    go (rest d f) (head j g) r = absurd (apart p (subst (λ (n : ℕ). 0 < n) f h) (ap key j ∙ sym e))
    go (rest d f) (rest c g) r = r (subst (λ (n : ℕ). 0 < n) f h) (subst (λ (n : ℕ). 0 < n) g k) e

-- n positions below n by strictly ascending keys are an order of n distinct keys
pub ordered_distinct : (key : ℕ → List ℕ) (n : ℕ) (ps : List ℕ) → length ps ≡ n → All (λ p. p < n) ps → Ascends key ps → DistinctTo key n × OrderedTo key n ps
ordered_distinct key n ps l b a =
    let once : (p : ℕ) → p < n → times p ps ≡ 1 = pigeonhole n ps l b (λ p h. ascends_once key ps a p) in
    (λ p q h k e. ascends_distinct key ps a p q (omega (arith, once p h)) (omega (arith, once q k)) e, record { once = once; only = b; ascends = a })

-- ---- one order

-- lists that hold the same positions, by ascending keys, are equal
same_one : (key : ℕ → List ℕ) (ps qs : List ℕ) → Ascends key ps → Ascends key qs → ((p : ℕ) → times p ps ≡ times p qs) → ps ≡ qs
same_one key [] [] a b h = refl
same_one key [] (y ∷ qs) a b h = let t : times y (y ∷ qs) ≡ suc (times y qs) = rw (eq-eqb y y refl) in absurd (omega (arith, h y, t))
same_one key (x ∷ ps) [] a b h = let t : times x (x ∷ ps) ≡ suc (times x ps) = rw (eq-eqb x x refl) in absurd (omega (arith, h x, t))
same_one key (x ∷ ps) (y ∷ qs) a b h = go (eqb x y) refl (same_one key ps qs a.1 b.1)
  where
    -- a head is listed
    mine : (z : ℕ) (zs : List ℕ) → times z (z ∷ zs) ≡ suc (times z zs)
    mine z zs = rw (eq-eqb z z refl)

    go : (c : Bool) → eqb x y ≡ c → (((p : ℕ) → times p ps ≡ times p qs) → ps ≡ qs) → x ∷ ps ≡ y ∷ qs
    go true e r =
        let i : x ≡ y = eqb-true x y e in
        let s : ps ≡ qs = r (λ p. tail p i (times_head p x ps) (times_head p y qs) (h p)) in
        cc
      where
        tail : (p : ℕ) → x ≡ y → Head p x ps → Head p y qs → times p (x ∷ ps) ≡ times p (y ∷ qs) → times p ps ≡ times p qs
        tail p i (head j f) (head k g) t = omega (arith, f, g, t)
        tail p i (head j f) (rest d g) t = absurd (d (sym i ∙ j))
        tail p i (rest d f) (head k g) t = absurd (d (i ∙ k))
        tail p i (rest d f) (rest c g) t = omega (arith, f, g, t)
    go false e r =
        let d = eqb-false x y e in
        let s : times x (y ∷ qs) ≡ times x qs = rw (ne_eqb y x (λ j. d (sym j))) in
        let t : times y (x ∷ ps) ≡ times y ps = rw (ne_eqb x y d) in
        let u : before (key y) (key x) ≡ true = times_all (λ q. before (key y) (key q) ≡ true) x qs b.0 (omega (arith, h x, mine x ps, s)) in
        let v : before (key x) (key y) ≡ true = times_all (λ q. before (key x) (key q) ≡ true) y ps a.0 (omega (arith, h y, mine y qs, t)) in
        absurd (before_one_way (key x) (key y) v u)

module _ (key : ℕ → List ℕ) (n : ℕ) where
  -- two orders of the same keys are equal
  pub ordered_to_one : (ps qs : List ℕ) → OrderedTo key n ps → OrderedTo key n qs → ps ≡ qs
  ordered_to_one ps qs a b = same_one key ps qs a.ascends b.ascends (λ p. go p (ltb p n) refl)
    where
      go : (p : ℕ) (c : Bool) → ltb p n ≡ c → times p ps ≡ times p qs
      go p true t = a.once p (ltb-true p n t) ∙ sym (b.once p (ltb-true p n t))
      go p false t =
          let l : n ≤ p = ltb-false p n t in
          times_none (λ q. q < n) p ps a.only (λ m. omega arith) ∙ sym (times_none (λ q. q < n) p qs b.only (λ m. omega arith))

  -- an order has as many positions as there are keys
  pub ordered_length : (ps : List ℕ) → OrderedTo key n ps → length ps ≡ n
  ordered_length ps a = once_length n ps a.only a.once

-- ---- the order that insertion makes

-- a property of p and of all is one of all with p put in
insert_all : (P : ℕ → Type 0) (key : ℕ → List ℕ) (p : ℕ) (ps : List ℕ) → P p → All P ps → All P (insert key p ps)
insert_all P key p [] h a = (h, tt)
insert_all P key p (q ∷ ps) h a = go (before (key q) (key p)) (insert_all P key p ps h a.1)
  where
    go : (c : Bool) → All P (insert key p ps) → All P (cond c (q ∷ insert key p ps) (p ∷ q ∷ ps))
    go true r = (a.0, r)
    go false r = (h, a)

-- p put in is listed once more
insert_length : (key : ℕ → List ℕ) (p : ℕ) (ps : List ℕ) → length (insert key p ps) ≡ suc (length ps)
insert_length key p [] = refl
insert_length key p (q ∷ ps) = go (before (key q) (key p)) (insert_length key p ps)
  where
    go : (c : Bool) → length (insert key p ps) ≡ suc (length ps) → length (cond c (q ∷ insert key p ps) (p ∷ q ∷ ps)) ≡ suc (suc (length ps))
    go true r = ap suc r
    go false r = refl

-- where no listed key is that of p, ascending keys stay ascending
insert_ascends : (key : ℕ → List ℕ) (p : ℕ) (ps : List ℕ) → All (λ q. key q ≡ key p → ⊥) ps → Ascends key ps → Ascends key (insert key p ps)
insert_ascends key p [] d a = (tt, tt)
insert_ascends key p (q ∷ ps) d a = go (before (key q) (key p)) refl (insert_ascends key p ps d.1 a.1)
  where
    go : (c : Bool) → before (key q) (key p) ≡ c → Ascends key (insert key p ps) → Ascends key (cond c (q ∷ insert key p ps) (p ∷ q ∷ ps))
    go true e r = (insert_all (λ x. before (key q) (key x) ≡ true) key p ps e a.0, r)
    go false e r =
        let t : before (key p) (key q) ≡ true = before_some (key q) (key p) e d.0 in
        ((t, all_turn (λ x. before (key q) (key x) ≡ true) (λ x. before (key p) (key x) ≡ true) (λ x u. before_trans (key p) (key q) (key x) t u) ps a.0), a)

-- it is below n
order_below : (key : ℕ → List ℕ) (n : ℕ) → All (λ p. p < n) (order_of key n)
order_below key zero = tt
order_below key (suc n) = insert_all (λ p. p < suc n) key n (order_of key n) (omega arith) (all_turn (λ p. p < n) (λ p. p < suc n) (λ p h. omega arith) (order_of key n) (order_below key n))

-- it is as long
pub order_length : (key : ℕ → List ℕ) (n : ℕ) → length (order_of key n) ≡ n
order_length key zero = refl
order_length key (suc n) = insert_length key n (order_of key n) ∙ ap suc (order_length key n)

-- it ascends
order_of_ascends : (key : ℕ → List ℕ) (n : ℕ) → DistinctTo key n → Ascends key (order_of key n)
order_of_ascends key zero d = tt
order_of_ascends key (suc n) d =
    insert_ascends key n (order_of key n)
    (all_turn (λ p. p < n) (λ q. key q ≡ key n → ⊥) (λ q h e. let i : q ≡ n = d q n (omega arith) (omega arith) e in omega arith) (order_of key n) (order_below key n))
    (order_of_ascends key n (λ p q h k e. d p q (omega arith) (omega arith) e))

-- the order is one
pub order_of_ordered : (key : ℕ → List ℕ) (n : ℕ) → DistinctTo key n → OrderedTo key n (order_of key n)
order_of_ordered key n d = (ordered_distinct key n (order_of key n) (order_length key n) (order_below key n) (order_of_ascends key n d)).1

-- the only one
pub order_of_one : (key : ℕ → List ℕ) (n : ℕ) (ps : List ℕ) → length ps ≡ n → All (λ p. p < n) ps → Ascends key ps → ps ≡ order_of key n
order_of_one key n ps l b a = let (d, o) = ordered_distinct key n ps l b a in ordered_to_one key n ps (order_of key n) o (order_of_ordered key n d)

-- ---- changes of the keys

-- p is put in the same place by the same keys
insert_same : (key lay : ℕ → List ℕ) (p : ℕ) (ps : List ℕ) → key p ≡ lay p → All (λ q. key q ≡ lay q) ps → insert key p ps ≡ insert lay p ps
insert_same key lay p [] h a = refl
insert_same key lay p (q ∷ ps) h a =
    let r = insert_same key lay p ps h a.1 in
    ap (λ (x : List ℕ). cond (before x (key p)) (q ∷ insert key p ps) (p ∷ q ∷ ps)) a.0
    ∙ ap (λ (x : List ℕ). cond (before (lay q) x) (q ∷ insert key p ps) (p ∷ q ∷ ps)) h
    ∙ ap (λ (l : List ℕ). cond (before (lay q) (lay p)) (q ∷ l) (p ∷ q ∷ ps)) r

-- the same keys have the same order, whatever else was overwritten
pub order_of_same : (key lay : ℕ → List ℕ) (n : ℕ) → ((p : ℕ) → p < n → key p ≡ lay p) → order_of key n ≡ order_of lay n
order_of_same key lay zero h = refl
order_of_same key lay (suc n) h =
    insert_same key lay n (order_of key n) (h n (omega arith)) (all_turn (λ p. p < n) (λ q. key q ≡ lay q) (λ q l. h q (omega arith)) (order_of key n) (order_below key n))
    ∙ ap (insert lay n) (order_of_same key lay n (λ p l. h p (omega arith)))

-- p is put in the same place by keys that compare alike
insert_alike : (key lay : ℕ → List ℕ) (p : ℕ) (ps : List ℕ) → All (λ q. before (key q) (key p) ≡ before (lay q) (lay p)) ps → insert key p ps ≡ insert lay p ps
insert_alike key lay p [] a = refl
insert_alike key lay p (q ∷ ps) a =
    ap (λ (b : Bool). cond b (q ∷ insert key p ps) (p ∷ q ∷ ps)) a.0 ∙ ap (λ (l : List ℕ). cond (before (lay q) (lay p)) (q ∷ l) (p ∷ q ∷ ps)) (insert_alike key lay p ps a.1)

-- keys that compare alike have the same order
pub order_of_alike : (key lay : ℕ → List ℕ) (n : ℕ) → ((p q : ℕ) → p < n → q < n → before (key p) (key q) ≡ before (lay p) (lay q)) → order_of key n ≡ order_of lay n
order_of_alike key lay zero h = refl
order_of_alike key lay (suc n) h =
    insert_alike key lay n (order_of key n)
    (all_turn (λ p. p < n) (λ q. before (key q) (key n) ≡ before (lay q) (lay n)) (λ q l. h q n (omega arith) (omega arith)) (order_of key n) (order_below key n))
    ∙ ap (insert lay n) (order_of_alike key lay n (λ p q l m. h p q (omega arith) (omega arith)))

-- ---- a position that goes

module _ (p : ℕ) where
  -- a position that stays keeps its key
  lift_lower : (q : ℕ) → (q ≡ p → ⊥) → lift p (lower p q) ≡ q
  lift_lower q d = go (ltb p q) refl
    where
      go : (c : Bool) → ltb p q ≡ c → lift p (cond c (q - 1) q) ≡ q
      go true e = let l : p < q = ltb-true p q e in rw (le-ltb (q - 1) p (omega arith)) (omega arith)
      go false e = let l : q ≤ p = ltb-false p q e in rw (lt-ltb q p (omega (arith, d)))

  -- and is below one less
  lower_below : (n q : ℕ) → p ≤ n → q < suc n → (q ≡ p → ⊥) → lower p q < n
  lower_below n q h k d = go (ltb p q) refl
    where
      go : (c : Bool) → ltb p q ≡ c → cond c (q - 1) q < n
      go true e = let l : p < q = ltb-true p q e in omega arith
      go false e = let l : q ≤ p = ltb-false p q e in omega (arith, d)

  -- those that stay are below one less
  without_below : (n : ℕ) (ps : List ℕ) → p ≤ n → All (λ q. q < suc n) ps → All (λ q. q < n) (without p ps)
  without_below n [] h a = tt
  without_below n (q ∷ ps) h a = go (eqb q p) refl (without_below n ps h a.1)
    where
      go : (c : Bool) → eqb q p ≡ c → All (λ q. q < n) (without p ps) → All (λ q. q < n) (map (lower p) (cond c (unless (λ q. eqb q p) ps) (q ∷ unless (λ q. eqb q p) ps)))
      go true e r = r
      go false e r = (lower_below n q h a.0 (eqb-false q p e), r)

  -- as many go as p is listed
  without_length : (ps : List ℕ) → length (without p ps) + times p ps ≡ length ps
  without_length [] = refl
  without_length (q ∷ ps) = go (eqb q p) (without_length ps)
    where
      go : (c : Bool) → length (without p ps) + times p ps ≡ length ps
          → length (map (lower p) (cond c (unless (λ q. eqb q p) ps) (q ∷ unless (λ q. eqb q p) ps))) + cond c (suc (times p ps)) (times p ps) ≡ suc (length ps)
      go true r = omega (arith, r)
      go false r = omega (arith, r)

  -- what all have is what those that stay had
  without_all : (P Q : ℕ → Type 0) → ((q : ℕ) → (q ≡ p → ⊥) → P q → Q (lower p q)) → (ps : List ℕ) → All P ps → All Q (without p ps)
  without_all P Q h [] a = tt
  without_all P Q h (q ∷ ps) a = go (eqb q p) refl (without_all P Q h ps a.1)
    where
      go : (c : Bool) → eqb q p ≡ c → All Q (without p ps) → All Q (map (lower p) (cond c (unless (λ q. eqb q p) ps) (q ∷ unless (λ q. eqb q p) ps)))
      go true e r = r
      go false e r = (h q (eqb-false q p e) a.0, r)

  -- those that stay still ascend
  without_ascends : (key : ℕ → List ℕ) (ps : List ℕ) → Ascends key ps → Ascends (λ q. key (lift p q)) (without p ps)
  without_ascends key [] a = tt
  without_ascends key (q ∷ ps) a = go (eqb q p) refl (without_ascends key ps a.1)
    where
      go : (c : Bool) → eqb q p ≡ c → Ascends (λ q. key (lift p q)) (without p ps) → Ascends (λ q. key (lift p q)) (map (lower p) (cond c (unless (λ q. eqb q p) ps) (q ∷ unless (λ q. eqb q p) ps)))
      go true e r = r
      go false e r =
          let i : key (lift p (lower p q)) ≡ key q = ap key (lift_lower q (eqb-false q p e)) in (
            without_all (λ x. before (key q) (key x) ≡ true) (λ x. before (key (lift p (lower p q))) (key (lift p x)) ≡ true)
                (λ x d t. ap₂ (λ (a b : List ℕ). before a b) i (ap key (lift_lower x d)) ∙ t) ps a.0,
            r,
          )

-- the order without position p, of one key less
pub order_of_drop : (key : ℕ → List ℕ) (n p : ℕ) → DistinctTo key (suc n) → p ≤ n → without p (order_of key (suc n)) ≡ order_of (λ q. key (lift p q)) n
order_of_drop key n p d h =
    let o = order_of_ordered key (suc n) d in
    let ps = order_of key (suc n) in
    let t : times p ps ≡ 1 = o.once p (omega arith) in
    let l : length (without p ps) ≡ n = omega (arith, without_length p ps, order_length key (suc n), t) in
    order_of_one (λ q. key (lift p q)) n (without p ps) l (without_below p n ps h o.only) (without_ascends p key ps o.ascends)
