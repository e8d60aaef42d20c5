-- Lists of a given length: cut off, or filled up. Assumes nothing.
use Rattle.lists.proofs.Kit.{◌≡◌, refl, sym, ap, ◌≢◌, List, [], ◌∷◌, ◌++◌, head-eq_of_cons-eq, tail-eq_of_cons-eq, ℕ, zero, suc, ◌+◌, ◌-◌, ◌≤◌, not-suc-le-zero, le_of_suc-le-suc, zero-add, suc-add, zero-sub, sub-zero, suc-sub-suc, arith, length, take, replicate}
use Rattle.lists.specs.Every.{All}
use Rattle.slots.specs.Slots.{pad}

module _ {A : Type 0} (d : A) where
  -- n elements
  pub pad_length : (n : ℕ) (xs : List A) → length (pad d n xs) ≡ n
  pad_length zero xs = refl
  pad_length (suc n) [] = ap suc (pad_length n [])
  pad_length (suc n) (x ∷ xs) = ap suc (pad_length n xs)

  -- nothing, filled up
  pub pad_nil : (n : ℕ) → pad d n [] ≡ replicate n d
  pad_nil zero = refl
  pad_nil (suc n) = ap (λ l. d ∷ l) (pad_nil n)

  -- as many as fit, and then d
  pub pad_is : (n : ℕ) (xs : List A) → pad d n xs ≡ take n xs ++ replicate (n - length xs) d
  pad_is zero xs = rw zero-sub
  pad_is (suc n) [] = rw sub-zero (ap (λ l. d ∷ l) (pad_nil n))
  pad_is (suc n) (x ∷ xs) = rw suc-sub-suc (ap (λ l. x ∷ l) (pad_is n xs))

  -- every element has P where d has it
  pub pad_all : (P : A → Type 0) → P d → (n : ℕ) (xs : List A) → All P xs → All P (pad d n xs)
  pad_all P h zero xs p = tt
  pad_all P h (suc n) [] p = (h, pad_all P h n [] tt)
  pad_all P h (suc n) (x ∷ xs) p = (p.0, pad_all P h n xs p.1)

  -- what stands before is kept
  pub pad_after : (a b : List A) (n : ℕ) → pad d (length a + n) (a ++ b) ≡ a ++ pad d n b
  pad_after [] b n = rw zero-add
  pad_after (x ∷ a) b n = rw suc-add (ap (λ l. x ∷ l) (pad_after a b n))

  -- what is filled up with d, and holds no d, is known by what it is filled up to
  pub pad_one : (n : ℕ) (xs ys : List A) → All (λ x. x ≢ d) xs → All (λ x. x ≢ d) ys → length xs ≤ n → length ys ≤ n → pad d n xs ≡ pad d n ys → xs ≡ ys
  pad_one zero [] [] p q h k e = refl
  pad_one zero [] (y ∷ ys) p q h k e = absurd (not-suc-le-zero k)
  pad_one zero (x ∷ xs) ys p q h k e = absurd (not-suc-le-zero h)
  pad_one (suc n) [] [] p q h k e = refl
  pad_one (suc n) [] (y ∷ ys) p q h k e = absurd (q.0 (sym (head-eq_of_cons-eq e)))
  pad_one (suc n) (x ∷ xs) [] p q h k e = absurd (p.0 (head-eq_of_cons-eq e))
  pad_one (suc n) (x ∷ xs) (y ∷ ys) p q h k e =
      let a = head-eq_of_cons-eq e in
      let b = pad_one n xs ys p.1 q.1 (le_of_suc-le-suc h) (le_of_suc-le-suc k) (tail-eq_of_cons-eq e) in
      cc

  -- and so is what is as long
  pub pad_same : (n : ℕ) (xs ys : List A) → length xs ≡ length ys → length xs ≤ n → pad d n xs ≡ pad d n ys → xs ≡ ys
  pad_same n [] [] l h e = refl
  pad_same n [] (y ∷ ys) l h e = absurd (omega arith)
  pad_same n (x ∷ xs) [] l h e = absurd (omega arith)
  pad_same zero (x ∷ xs) (y ∷ ys) l h e = absurd (not-suc-le-zero h)
  pad_same (suc n) (x ∷ xs) (y ∷ ys) l h e =
      let a = head-eq_of_cons-eq e in
      let b = pad_same n xs ys (omega arith) (le_of_suc-le-suc h) (tail-eq_of_cons-eq e) in
      cc
