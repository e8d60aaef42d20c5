-- How often a position is listed: n positions below n, none twice, are all of them. Assumes nothing.
use Prim.Native.Nat.{ℕ, zero, suc, ◌+◌, ◌≤◌, ◌<◌}
use mathlib.Core.Path.{◌≡◌, refl, sym, ap, ◌∙◌, subst}
use mathlib.Core.Bool.{Bool, true, false}
use mathlib.Core.List.{List, [], ◌∷◌}
use native.Mathlib.Omega.{arith}
use native.Mathlib.Nat.{not-suc-le-zero}
use borrow.Author.Tests.{eqb-true, eqb-false}
use lib.Dec.{eqb}
use lib.ListN.{length}
use Rattle.lists.specs.Every.{All}
use Rattle.orders.specs.Orders.{times}

-- the head is the position, or the position is among the rest
pub data Head (p x : ℕ) (ps : List ℕ) : Type 0 where
  head : x ≡ p → times p (x ∷ ps) ≡ suc (times p ps) → Head p x ps
  rest : (x ≡ p → ⊥) → times p (x ∷ ps) ≡ times p ps → Head p x ps

pub times_head : (p x : ℕ) (ps : List ℕ) → Head p x ps
times_head p x ps = go (eqb x p) refl
  where
    go : (b : Bool) → eqb x p ≡ b → Head p x ps
    go true e = head (eqb-true x p e) (rw e)
    go false e = rest (eqb-false x p e) (rw e)

-- what all have, a listed one has
pub times_all : (P : ℕ → Type 0) (p : ℕ) (ps : List ℕ) → All P ps → 0 < times p ps → P p
times_all P p [] a h = absurd (not-suc-le-zero h)
times_all P p (x ∷ ps) a h = go (times_head p x ps) (times_all P p ps a.1)
  where
    go : Head p x ps → (0 < times p ps → P p) → P p
    go (head i e) r = subst P i a.0
    go (rest d e) r = r (subst (λ (n : ℕ). 0 < n) e h)

-- what all have, and p has not, is not p
pub times_none : (P : ℕ → Type 0) (p : ℕ) (ps : List ℕ) → All P ps → (P p → ⊥) → times p ps ≡ 0
times_none P p ps a d = go (times p ps) refl
  where
    go : (n : ℕ) → times p ps ≡ n → times p ps ≡ 0
    go zero e = e
    go (suc n) e = absurd (d (times_all P p ps a (omega arith)))

-- how many of the list are below n
abbrev total : ℕ → List ℕ → ℕ
total zero ps = 0
total (suc n) ps = total n ps + times n ps

total_nil : (n : ℕ) → total n [] ≡ 0
total_nil zero = refl
total_nil (suc n) = omega (arith, total_nil n)

-- what is not below n does not count
total_past : (n x : ℕ) (ps : List ℕ) → n ≤ x → total n (x ∷ ps) ≡ total n ps
total_past zero x ps h = refl
total_past (suc n) x ps h = go (times_head n x ps) (total_past n x ps (omega arith))
  where
    go : Head n x ps → total n (x ∷ ps) ≡ total n ps → total n (x ∷ ps) + times n (x ∷ ps) ≡ total n ps + times n ps
    go (head i e) r = absurd (omega arith)
    go (rest d e) r = omega (arith, e, r)

-- what is below n counts
total_more : (n x : ℕ) (ps : List ℕ) → x < n → total n (x ∷ ps) ≡ suc (total n ps)
total_more zero x ps h = absurd (not-suc-le-zero h)
total_more (suc n) x ps h = go (times_head n x ps) (total_more n x ps) (total_past n x ps)
  where
    go : Head n x ps → (x < n → total n (x ∷ ps) ≡ suc (total n ps)) → (n ≤ x → total n (x ∷ ps) ≡ total n ps) → total n (x ∷ ps) + times n (x ∷ ps) ≡ suc (total n ps + times n ps)
    go (head i e) r q = omega (arith, e, q (omega arith))
    go (rest d e) r q = let l : x < n = omega (arith, d) in omega (arith, e, r l)

-- positions below n all count
total_length : (n : ℕ) (ps : List ℕ) → All (λ p. p < n) ps → total n ps ≡ length ps
total_length n [] a = total_nil n
total_length n (x ∷ ps) a = total_more n x ps a.0 ∙ ap suc (total_length n ps a.1)

-- none twice: at most n
total_le : (n : ℕ) (ps : List ℕ) → ((p : ℕ) → p < n → times p ps ≤ 1) → total n ps ≤ n
total_le zero ps u = omega arith
total_le (suc n) ps u = omega (arith, total_le n ps (λ p h. u p (omega arith)), u n (omega arith))

-- none twice, and one not at all: below n
total_lt : (n p : ℕ) (ps : List ℕ) → ((q : ℕ) → q < n → times q ps ≤ 1) → p < n → times p ps ≡ 0 → total n ps < n
total_lt zero p ps u h z = absurd (not-suc-le-zero h)
total_lt (suc n) p ps u h z = go (eqb p n) refl (total_lt n p ps (λ q l. u q (omega arith))) (total_le n ps (λ q l. u q (omega arith)))
  where
    go : (b : Bool) → eqb p n ≡ b → (p < n → times p ps ≡ 0 → total n ps < n) → total n ps ≤ n → total n ps + times n ps < suc n
    go true e r q = let i = eqb-true p n e in let y : times n ps ≡ 0 = subst (λ (m : ℕ). times m ps ≡ 0) i z in omega (arith, q, y)
    go false e r q = let d = eqb-false p n e in let l : p < n = omega (arith, d) in omega (arith, r l z, u n (omega arith))

-- n positions below n, none twice, are each of them once
pub pigeonhole : (n : ℕ) (ps : List ℕ) → length ps ≡ n → All (λ p. p < n) ps → ((p : ℕ) → p < n → times p ps ≤ 1) → (p : ℕ) → p < n → times p ps ≡ 1
pigeonhole n ps l a u p h = go (times p ps) refl (u p h)
  where
    go : (m : ℕ) → times p ps ≡ m → times p ps ≤ 1 → times p ps ≡ 1
    go zero e k = absurd (omega (arith, total_lt n p ps u h e, total_length n ps a))
    go (suc m) e k = omega (arith, e, k)

-- each of n positions once, and no other: n
pub once_length : (n : ℕ) (ps : List ℕ) → All (λ p. p < n) ps → ((p : ℕ) → p < n → times p ps ≡ 1) → length ps ≡ n
once_length n ps a u = sym (total_length n ps a) ∙ each n (λ p h. u p h)
  where
    each : (m : ℕ) → ((p : ℕ) → p < m → times p ps ≡ 1) → total m ps ≡ m
    each zero v = refl
    each (suc m) v = omega (arith, each m (λ p h. v p (omega arith)), v m (omega arith))
