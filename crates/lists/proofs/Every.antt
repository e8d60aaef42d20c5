-- Lists of which every element has a property. Assumes nothing.
use Rattle.lists.proofs.Kit.{Bool, true, false, ◌&&◌, ◌↔◌, iff_rfl, List, [], ◌∷◌, ◌++◌, map, ℕ, zero, suc, ◌+◌, ◌<◌, not-suc-le-zero, le_of_suc-le-suc, add-one, T, get_or, drop, length, set, take, replicate, drop-cons}
use Rattle.lists.specs.Every.{All}

-- every element of two lists, one after the other
pub all_append : {A : Type 0} (P : A → Type 0) (a b : List A) → All P a → All P b → All P (a ++ b)
all_append P [] b p q = q
all_append P (x ∷ a) b p q = (p.0, all_append P a b p.1 q)

-- every element of the first of two lists, and of the second
pub all_left : {A : Type 0} (P : A → Type 0) (a b : List A) → All P (a ++ b) → All P a
all_left P [] b p = tt
all_left P (x ∷ a) b p = (p.0, all_left P a b p.1)

pub all_right : {A : Type 0} (P : A → Type 0) (a b : List A) → All P (a ++ b) → All P b
all_right P [] b p = p
all_right P (x ∷ a) b p = all_right P a b p.1

-- what has P has Q
pub all_turn : {A : Type 0} (P Q : A → Type 0) → ((a : A) → P a → Q a) → (xs : List A) → All P xs → All Q xs
all_turn P Q h [] p = tt
all_turn P Q h (x ∷ xs) p = (h x p.0, all_turn P Q h xs p.1)

-- what has P and Q has R
pub all_both : {A : Type 0} (P Q R : A → Type 0) → ((a : A) → P a → Q a → R a) → (xs : List A) → All P xs → All Q xs → All R xs
all_both P Q R h [] p q = tt
all_both P Q R h (x ∷ xs) p q = (h x p.0 q.0, all_both P Q R h xs p.1 q.1)

-- what a function makes has P
pub all_made : {A B : Type 0} (P : B → Type 0) (f : A → B) → ((a : A) → P (f a)) → (xs : List A) → All P (map f xs)
all_made P f h [] = tt
all_made P f h (x ∷ xs) = (h x, all_made P f h xs)

-- what a function makes of what has P has Q
pub all_map : {A B : Type 0} (P : A → Type 0) (Q : B → Type 0) (f : A → B) → ((a : A) → P a → Q (f a)) → (xs : List A) → All P xs → All Q (map f xs)
all_map P Q f h [] p = tt
all_map P Q f h (x ∷ xs) p = (h x p.0, all_map P Q f h xs p.1)

-- what everything has
pub all_any : {A : Type 0} (P : A → Type 0) → ((a : A) → P a) → (xs : List A) → All P xs
all_any P h [] = tt
all_any P h (x ∷ xs) = (h x, all_any P h xs)

-- one element, many times
pub all_replicate : {A : Type 0} (P : A → Type 0) (n : ℕ) (a : A) → P a → All P (replicate n a)
all_replicate P zero a p = tt
all_replicate P (suc n) a p = (p, all_replicate P n a p)

-- the first k elements
pub all_take : {A : Type 0} (P : A → Type 0) (k : ℕ) (xs : List A) → All P xs → All P (take k xs)
all_take P zero xs p = tt
all_take P (suc k) [] p = tt
all_take P (suc k) (x ∷ xs) p = (p.0, all_take P k xs p.1)

-- the element in place k
pub all_get : {A : Type 0} (P : A → Type 0) (xs : List A) (k : ℕ) (d : A) → All P xs → k < length xs → P (get_or xs k d)
all_get P [] k d p h = absurd (not-suc-le-zero h)
all_get P (x ∷ xs) zero d p h = p.0
all_get P (x ∷ xs) (suc k) d p h = all_get P xs k d p.1 (le_of_suc-le-suc h)

-- an element put in place k
pub all_set : {A : Type 0} (P : A → Type 0) (xs : List A) (k : ℕ) (a : A) → P a → All P xs → All P (set xs k a)
all_set P [] k a h p = tt
all_set P (x ∷ xs) zero a h p = (h, p.1)
all_set P (x ∷ xs) (suc k) a h p = (p.0, all_set P xs k a h p.1)

-- both tests passed
pub both : (a b : Bool) → T (a && b) → T a × T b
both true b h = (tt, h)
both false b h = absurd h

-- the test passes at every element
abbrev pub all? : {A : Type 0} → (A → Bool) → List A → Bool
all? f [] = true
all? f (x ∷ xs) = f x && all? f xs

-- a test that passes at every element shows there what it tests
pub all_passed : {A : Type 0} (f : A → Bool) (P : A → Type 0) → ((x : A) → T (f x) → P x) → (xs : List A) → T (all? f xs) → All P xs
all_passed f P shown [] t = tt
all_passed f P shown (x ∷ xs) t = let (p, q) = both (f x) (all? f xs) t in (shown x p, all_passed f P shown xs q)

-- what stands from place i on is the element there and what stands behind it
pub all_from : {A : Type 0} (P : A → Type 0) (xs : List A) (i : ℕ) (d : A) → i < length xs → (P (get_or xs i d) × All P (drop (i + 1) xs)) ↔ All P (drop i xs)
all_from P xs i d h = rw (add-one, drop-cons xs i d) iff_rfl
