-- Parameters one after another, cut into messages: each takes all that fits. Assumes nothing.
use Prim.Native.Nat.{ℕ, suc, ◌+◌, ◌≤◌}
use mathlib.Core.Path.{◌≡◌, refl, sym, ap, ◌∙◌}
use mathlib.Core.Bool.{Bool, true, false, cond, true≢false, ◌&&◌}
use mathlib.Core.List.{List, [], ◌∷◌, ◌++◌}
use native.Mathlib.Omega.{arith}
use borrow.Author.Tests.{ltb-true, lt-ltb}
use lib.Dec.{ltb}
use lib.ListN.{length}
use Rattle.lists.proofs.Bools.{and_parts}
use Rattle.lists.specs.Every.{All}
use Rattle.reports.specs.Cut.{onto, into, fits?, split}

-- both tests of a conjunction, together
pub and_made : (a b : Bool) → a ≡ true → b ≡ true → (a && b) ≡ true
and_made true b p q = q
and_made false b p q = p

-- all lists, one after the other
abbrev pub all : {A : Type 0} → List (List A) → List A
all [] = []
all (g ∷ gs) = g ++ all gs

onto_all : {A : Type 0} (a : A) (gs : List (List A)) → all (onto a gs) ≡ a ∷ all gs
onto_all a [] = refl
onto_all a (g ∷ gs) = refl

pub onto_length : {A : Type 0} (a : A) (gs : List (List A)) → 1 ≤ length gs → length (onto a gs) ≡ length gs
onto_length a [] h = absurd (omega arith)
onto_length a (g ∷ gs) h = refl

abbrev pub sizes : {A : Type 0} → (A → ℕ) → List A → ℕ
sizes size [] = 0
sizes size (a ∷ l) = size a + sizes size l

module _ {A : Type 0} (size : A → ℕ) (room most : ℕ) where
  -- what is left, after a parameter that went into the open message or into a new one
  abbrev pub after : Bool → ℕ → ℕ → A → List A → List (List A)
  after b used count a l = split size room most (cond b (used + size a) (size a)) (cond b (suc count) 1) l

  -- SPLIT ALL: nothing is lost and nothing changes places
  pub split_all : (used count : ℕ) (l : List A) → all (split size room most used count l) ≡ l
  split_all used count [] = refl
  split_all used count (a ∷ l) = go (fits? size room most used count a) (λ u n. split_all u n l)
    where
      go : (b : Bool) → ((u n : ℕ) → all (split size room most u n l) ≡ l) → all (into b a (after b used count a l)) ≡ a ∷ l
      go true more = onto_all a (after true used count a l) ∙ ap (λ z. a ∷ z) (more (used + size a) (suc count))
      go false more = onto_all a (after false used count a l) ∙ ap (λ z. a ∷ z) (more (size a) 1)

  -- SPLIT SOME: there is a message
  pub split_some : (used count : ℕ) (l : List A) → 1 ≤ length (split size room most used count l)
  split_some used count [] = omega arith
  split_some used count (a ∷ l) = go (fits? size room most used count a) (λ u n. split_some u n l)
    where
      go : (b : Bool) → ((u n : ℕ) → 1 ≤ length (split size room most u n l)) → 1 ≤ length (into b a (after b used count a l))
      go true more = let h = more (used + size a) (suc count) in omega (arith, onto_length a (after true used count a l) h, h)
      go false more = omega arith

  -- a message is inside its bounds
  pub record Fit (g : List A) : Type 0 where
    pub bytes : sizes size g ≤ room
    pub few : length g ≤ most

  -- the first goes on with an open message that has so much in it
  abbrev pub Open : ℕ → ℕ → List (List A) → Type 0
  Open used count [] = ⊥
  Open used count (g ∷ gs) = (used + sizes size g ≤ room) × (count + length g ≤ most) × All Fit gs

  open_onto : (used count : ℕ) (a : A) (gs : List (List A)) → Open (used + size a) (suc count) gs → Open used count (onto a gs)
  open_onto used count a [] h = absurd h
  open_onto used count a (g ∷ gs) h = (omega (arith, h.0), omega (arith, h.1), h.2)

  open_new : (a : A) (gs : List (List A)) → Open (size a) 1 gs → All Fit (onto a gs)
  open_new a [] h = absurd h
  open_new a (g ∷ gs) h = (record { bytes = h.0; few = omega (arith, h.1) }, h.2)

  -- where each parameter fits an empty message
  pub split_open : 1 ≤ most → (used count : ℕ) (l : List A) → used ≤ room → count ≤ most → All (λ a. size a ≤ room) l → Open used count (split size room most used count l)
  split_open o used count [] h k p = (omega arith, omega arith, tt)
  split_open o used count (a ∷ l) h k p = go (fits? size room most used count a) refl (λ u n x y. split_open o u n l x y p.1)
    where
      go : (b : Bool) → fits? size room most used count a ≡ b → ((u n : ℕ) → u ≤ room → n ≤ most → Open u n (split size room most u n l))
          → Open used count (into b a (after b used count a l))
      go true e more =
          let (x, y) = and_parts (ltb count most) (ltb (used + size a) (suc room)) e in
          let u : used + size a ≤ room = omega (arith, ltb-true (used + size a) (suc room) y) in
          let v : suc count ≤ most = omega (arith, ltb-true count most x) in
          open_onto used count a (after true used count a l) (more (used + size a) (suc count) u v)
      go false e more = (omega arith, omega arith, open_new a (after false used count a l) (more (size a) 1 p.0 o))

  -- SPLIT FITS: every message is inside its bounds
  pub split_fits : 1 ≤ most → (l : List A) → All (λ a. size a ≤ room) l → All Fit (split size room most 0 0 l)
  split_fits o l p = go (split size room most 0 0 l) (split_open o 0 0 l (omega arith) (omega arith) p)
    where
      go : (gs : List (List A)) → Open 0 0 gs → All Fit gs
      go [] h = absurd h
      go (g ∷ gs) h = (record { bytes = omega (arith, h.0); few = omega (arith, h.1) }, h.2)

  -- only the first message may have nothing new
  abbrev Later : List (List A) → Type 0
  Later [] = ⊥
  Later (g ∷ gs) = All (λ x. 1 ≤ length x) gs

  later_onto : (a : A) (gs : List (List A)) → Later gs → Later (onto a gs)
  later_onto a [] h = absurd h
  later_onto a (g ∷ gs) h = h

  later_all : (a : A) (gs : List (List A)) → Later gs → All (λ x. 1 ≤ length x) (onto a gs)
  later_all a [] h = absurd h
  later_all a (g ∷ gs) h = (omega arith, h)

  split_later : (used count : ℕ) (l : List A) → Later (split size room most used count l)
  split_later used count [] = tt
  split_later used count (a ∷ l) = go (fits? size room most used count a) (λ u n. split_later u n l)
    where
      go : (b : Bool) → ((u n : ℕ) → Later (split size room most u n l)) → Later (into b a (after b used count a l))
      go true more = later_onto a (after true used count a l) (more (used + size a) (suc count))
      go false more = later_all a (after false used count a l) (more (size a) 1)

  -- SPLIT FILLED: where there is a parameter, no message is empty
  pub split_filled : 1 ≤ most → (a : A) (l : List A) → size a ≤ room → All (λ x. 1 ≤ length x) (split size room most 0 0 (a ∷ l))
  split_filled o a l h = go (fits? size room most 0 0 a) refl
    where
      go : (b : Bool) → fits? size room most 0 0 a ≡ b → All (λ x. 1 ≤ length x) (into b a (after b 0 0 a l))
      go true e = later_all a (after true 0 0 a l) (split_later (0 + size a) 1 l)
      go false e = absurd (true≢false (sym (and_made (ltb 0 most) (ltb (0 + size a) (suc room)) (lt-ltb 0 most o) (lt-ltb (0 + size a) (suc room) (omega arith))) ∙ e))
