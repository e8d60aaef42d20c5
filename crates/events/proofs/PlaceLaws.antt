-- Tables of places with no table: what stands in a place, and how much all entries take. Assumes nothing.
use Rattle.lists.proofs.Kit.{ℕ, zero, suc, ◌+◌, ◌-◌, ◌≤◌, ◌<◌, ◌≡◌, refl, sym, ap, ◌∙◌, subst, Bool, true, false, cond, List, [], ◌∷◌, ◌++◌, Option, none, add-zero, zero-add, add-suc, suc-add, not-suc-le-zero, le_of_suc-le-suc, arith, eqb-true, eqb-false, eqb, length, get_or, set, replicate, length-set, length-replicate, get_or-replicate, get_or-set_same, get_or-set_other}
use lib.Seq.{ext_get_or}
use Rattle.events.specs.Events.{Event, clear, put, remove, weight, total}
use Rattle.events.specs.Places.{from_place, Inside, place_step, places_after, spot_step, spot_on, spot, spots_total_step, spots_total_on}
use Rattle.events.proofs.ReadingLaws.{reading_append}

-- ---- places

-- a place after one is set
set_look : {B : Type 0} (os : List (Option B)) (j i : ℕ) (o : Option B) → i < length os → get_or (set os j o) i none ≡ cond (eqb j i) o (get_or os i none)
set_look {B} os j i o h = go (eqb j i) refl
  where
    go : (b : Bool) → eqb j i ≡ b → get_or (set os j o) i none ≡ cond b o (get_or os i none)
    go true e = rw (eqb-true j i e) (get_or-set_same os i o none h)
    go false e = get_or-set_other os j i o none (λ q. eqb-false j i e (sym q))

-- how much a table takes after a place is set
total_set : {B : Type 0} (size : B → ℕ) (os : List (Option B)) (j : ℕ) (o : Option B) → j < length os
    → total (weight size) (set os j o) + weight size (get_or os j none) ≡ total (weight size) os + weight size o
total_set size [] j o h = absurd (not-suc-le-zero h)
total_set size (x ∷ os) zero o h = omega arith
total_set size (x ∷ os) (suc j) o h = omega (arith, total_set size os j o (le_of_suc-le-suc h))

-- what stands in a place takes no more than all do
pub place_weight : {B : Type 0} (size : B → ℕ) (os : List (Option B)) (j : ℕ) → weight size (get_or os j none) ≤ total (weight size) os
place_weight size [] j = omega arith
place_weight size (x ∷ os) zero = omega arith
place_weight size (x ∷ os) (suc j) = omega (arith, place_weight size os j)

-- an empty table takes nothing
total_empty : {B : Type 0} (size : B → ℕ) (n : ℕ) → total (weight size) (replicate n none) ≡ 0
total_empty size zero = refl
total_empty size (suc n) = omega (arith, total_empty size n)

-- what f says of n places from place i on
from_length : {B : Type 0} (f : ℕ → Option B) (i n : ℕ) → length (from_place f i n) ≡ n
from_length f i zero = refl
from_length f i (suc n) = ap suc (from_length f (suc i) n)

from_get : {B : Type 0} (f : ℕ → Option B) (i n k : ℕ) → k < n → get_or (from_place f i n) k none ≡ f (i + k)
from_get f i zero k h = absurd (not-suc-le-zero h)
from_get f i (suc n) zero h = ap f (sym (add-zero i))
from_get f i (suc n) (suc k) h = from_get f (suc i) n k (le_of_suc-le-suc h) ∙ ap f (suc-add i k ∙ sym (add-suc i k))

module _ {A B : Type 0} (place : A → ℕ) (change : Option B → A → Option B) (many : ℕ) where
  -- ---- one place

  -- one event keeps the number of places
  step_many : (v : Event A ℕ) (os : List (Option B)) → length os ≡ many → length (place_step place change many v os) ≡ many
  step_many clear os h = length-replicate many none
  step_many (put n a) os h = length-set os (place a) (change (get_or os (place a) none) a) ∙ h
  step_many (remove k) os h = length-set os k none ∙ h

  -- and makes of a place what reading makes of it
  step_spot : (i : ℕ) (v : Event A ℕ) (os : List (Option B)) → i < many → length os ≡ many → get_or (place_step place change many v os) i none ≡ spot_step place change i v (get_or os i none)
  step_spot i clear os h l = get_or-replicate many i none none h
  step_spot i (put n a) os h l = set_look os (place a) i (change (get_or os (place a) none) a) (omega arith) ∙ go (eqb (place a) i) refl
    where
      go : (b : Bool) → eqb (place a) i ≡ b → cond b (change (get_or os (place a) none) a) (get_or os i none) ≡ cond b (change (get_or os i none) a) (get_or os i none)
      go true e = ap (λ (j : ℕ). change (get_or os j none) a) (eqb-true (place a) i e)
      go false e = refl
  step_spot i (remove k) os h l = set_look os k i none (omega arith)

  -- a table keeps its number of places
  pub places_many : (es : List (Event A ℕ)) (os : List (Option B)) → length os ≡ many → length (places_after place change many es os) ≡ many
  places_many [] os l = l
  places_many (v ∷ es) os l = places_many es (place_step place change many v os) (step_many v os l)

  -- what stands in a place is what reading the events for that place finds
  pub place_is : (i : ℕ) (es : List (Event A ℕ)) (os : List (Option B)) → i < many → length os ≡ many → get_or (places_after place change many es os) i none ≡ spot_on place change i es (get_or os i none)
  place_is i [] os h l = refl
  place_is i (v ∷ es) os h l = place_is i es (place_step place change many v os) h (step_many v os l) ∙ ap (spot_on place change i es) (step_spot i v os h l)

  -- from an empty table
  pub spot_is : (i : ℕ) (es : List (Event A ℕ)) → i < many → get_or (places_after place change many es (replicate many none)) i none ≡ spot place change i es
  spot_is i es h = place_is i es (replicate many none) h (length-replicate many none) ∙ ap (spot_on place change i es) (get_or-replicate many i none none h)

  -- and the whole table
  pub places_are : (es : List (Event A ℕ)) → places_after place change many es (replicate many none) ≡ from_place (λ i. spot place change i es) 0 many
  places_are es =
      let l : length (places_after place change many es (replicate many none)) ≡ many = places_many es (replicate many none) (length-replicate many none) in
      ext_get_or none (places_after place change many es (replicate many none)) (from_place (λ i. spot place change i es) 0 many) (l ∙ sym (from_length (λ i. spot place change i es) 0 many))
      (λ i h. spot_is i es (omega arith) ∙ sym (from_get (λ j. spot place change j es) 0 many i (omega arith) ∙ ap (λ (j : ℕ). spot place change j es) (zero-add i)))

  -- ---- how much all entries take

  -- the first event, and the others
  pub inside_first : (v : Event A ℕ) (es : List (Event A ℕ)) → Inside place many (v ∷ es) → Inside place many (v ∷ []) × Inside place many es
  inside_first clear es x = (tt, x)
  inside_first (put n a) es x = ((x.0, tt), x.1)
  inside_first (remove k) es x = ((x.0, tt), x.1)

  -- the events that were read left os
  module _ (size : B → ℕ) (read : List (Event A ℕ)) (os : List (Option B)) (left : places_after place change many read (replicate many none) ≡ os) where
    -- it has all places
    left_many : length os ≡ many
    left_many = subst (λ (ps : List (Option B)). length ps ≡ many) left (places_many read (replicate many none) (length-replicate many none))

    -- and each is what reading finds
    left_spot : (j : ℕ) → j < many → spot place change j read ≡ get_or os j none
    left_spot j h = sym (spot_is j read h) ∙ ap (λ (ps : List (Option B)). get_or ps j none) left

    -- a place that is set
    set_total : (j : ℕ) (o : Option B) → j < many → total (weight size) os + weight size o - weight size (get_or os j none) ≡ total (weight size) (set os j o)
    set_total j o h = omega (arith, total_set size os j o (omega (arith, left_many)))

    -- one event
    spots_total_next : (v : Event A ℕ) → Inside place many (v ∷ []) → spots_total_step place change size read v (total (weight size) os) ≡ total (weight size) (place_step place change many v os)
    spots_total_next clear x = sym (total_empty size many)
    spots_total_next (put n a) x = rw (left_spot (place a) x.0) (set_total (place a) (change (get_or os (place a) none) a) x.0)
    spots_total_next (remove k) x = rw (left_spot k x.0) (omega (arith, set_total k none x.0))

  -- the sum is kept
  pub spots_total_is : (size : B → ℕ) (es read : List (Event A ℕ)) (os : List (Option B)) → Inside place many es → places_after place change many read (replicate many none) ≡ os
      → spots_total_on place change size read es (total (weight size) os) ≡ total (weight size) (places_after place change many es os)
  spots_total_is size [] read os x e = refl
  spots_total_is size (v ∷ es) read os x e =
      let (p, q) = inside_first v es x in
      ap (spots_total_on place change size (read ++ (v ∷ [])) es) (spots_total_next size read os e v p)
      ∙ spots_total_is size es (read ++ (v ∷ [])) (place_step place change many v os) q (reading_append (place_step place change many) read (v ∷ []) (replicate many none) ∙ ap (place_step place change many v) e)
