-- The order of positions by their keys: keys are compared byte by byte from the left, a shorter one before a longer one that starts with it. Assumes nothing.
use Rattle.std.specs.Prelude.{ℕ, zero, suc, ◌-◌, ◌<◌, ◌≡◌, Bool, true, false, ◌&&◌, ◌||◌, cond, List, [], ◌∷◌, map, length, get_or, ltb, eqb}
use Rattle.lists.specs.Every.{All}
use Rattle.slots.specs.Slots.{unless}

-- whether a stands before b
abbrev pub before : List ℕ → List ℕ → Bool
before [] [] = false
before [] (y ∷ ys) = true
before (x ∷ xs) [] = false
before (x ∷ xs) (y ∷ ys) = ltb x y || (eqb x y && before xs ys)

-- position p put among positions that are in order
abbrev pub insert : (ℕ → List ℕ) → ℕ → List ℕ → List ℕ
insert key p [] = p ∷ []
insert key p (q ∷ qs) = cond (before (key q) (key p)) (q ∷ insert key p qs) (p ∷ q ∷ qs)

-- the first n positions in order of their keys
abbrev pub order_of : (ℕ → List ℕ) → ℕ → List ℕ
order_of key zero = []
order_of key (suc n) = insert key n (order_of key n)

-- the key in a place
abbrev pub key_in : List (List ℕ) → ℕ → List ℕ
key_in keys p = get_or keys p []

-- the positions of keys in their order
abbrev pub order : List (List ℕ) → List ℕ
order keys = order_of (key_in keys) (length keys)

-- how often p is listed
abbrev pub times : ℕ → List ℕ → ℕ
times p [] = 0
times p (q ∷ qs) = cond (eqb q p) (suc (times p qs)) (times p qs)

-- each key stands before all that follow
abbrev pub Ascends : (ℕ → List ℕ) → List ℕ → Type 0
Ascends key [] = Unit {0}
Ascends key (p ∷ ps) = All (λ q. before (key p) (key q) ≡ true) ps × Ascends key ps

-- no two of the first n positions have one key
abbrev pub DistinctTo : (ℕ → List ℕ) → ℕ → Type 0
DistinctTo key n = (p q : ℕ) → p < n → q < n → key p ≡ key q → p ≡ q

-- ps is each of the first n positions once, and no other, by ascending keys
pub record OrderedTo (key : ℕ → List ℕ) (n : ℕ) (ps : List ℕ) : Type 0 where
  pub once : (p : ℕ) → p < n → times p ps ≡ 1
  pub only : All (λ p. p < n) ps
  pub ascends : Ascends key ps

-- ps is an order of the keys
abbrev pub Ordered : List (List ℕ) → List ℕ → Type 0
Ordered keys ps = OrderedTo (key_in keys) (length keys) ps

-- no two places have one key
abbrev pub DistinctKeys : List (List ℕ) → Type 0
DistinctKeys keys = DistinctTo (key_in keys) (length keys)

-- where a position stands once p is gone, and where one stood before
abbrev pub lower : ℕ → ℕ → ℕ
lower p q = cond (ltb p q) (q - 1) q

abbrev pub lift : ℕ → ℕ → ℕ
lift p q = cond (ltb q p) q (suc q)

-- p left out, and what is above it lowered
abbrev pub without : ℕ → List ℕ → List ℕ
without p ps = map (lower p) (unless (λ q. eqb q p) ps)
