-- Events one after another, events whose places are their own numbers, and places that rise. Assumes nothing.
use Rattle.lists.proofs.Kit.{ℕ, suc, ◌≤◌, ◌≡◌, refl, ap, ◌∙◌, Bool, true, false, cond, List, [], ◌∷◌, ◌++◌, map, Option, none, some, arith, eqb, ltb}
use Rattle.slots.specs.Slots.{index_of, put_at}
use Rattle.writing.specs.declared.Operation.{Operation}
use Rattle.writing.specs.declared.Operation.TheVariants.{Add, Delete, Replace}
use Rattle.tables.specs.Apply.{and_then, in_turn}
use Rattle.events.specs.Events.{Event, clear, put, remove, born_at, Rising, Before, Spans, numbered, has, step, after, look_step, look_on, rows}
use Rattle.events.specs.Settings.{events_by, Stands}
use Rattle.events.proofs.ReadingLaws.{reading_append}

-- places that rise rise from an earlier one on
pub rising_from : {A K : Type 0} (i j : ℕ) (es : List (Event A K)) → i ≤ j → Rising j es → Rising i es
rising_from i j [] h r = tt
rising_from i j (clear ∷ es) h r = rising_from i j es h r
rising_from i j (put m a ∷ es) h r = (omega (arith, r.0), r.1)
rising_from i j (remove k ∷ es) h r = rising_from i j es h r

-- numbers rise
pub numbered_rise : {A K : Type 0} (n : ℕ) (es : List (Event A K)) → Rising n (numbered n es)
numbered_rise n [] = tt
numbered_rise n (clear ∷ es) = rising_from n (suc n) (numbered (suc n) es) (omega arith) (numbered_rise (suc n) es)
numbered_rise n (put m a ∷ es) = (omega arith, numbered_rise (suc n) es)
numbered_rise n (remove k ∷ es) = rising_from n (suc n) (numbered (suc n) es) (omega arith) (numbered_rise (suc n) es)

module _ {A K : Type 0} (key : A → K) (same : K → K → Bool) where
  -- the table does not depend on the places
  pub numbered_after : (room n : ℕ) (es : List (Event A K)) (l : List A) → after key same room (numbered n es) l ≡ after key same room es l
  numbered_after room n [] l = refl
  numbered_after room n (clear ∷ es) l = numbered_after room (suc n) es []
  numbered_after room n (put m a ∷ es) l = go (ltb (index_of (has key same (key a)) l) room) (numbered_after room (suc n) es)
    where
      go : (b : Bool) → ((k : List A) → after key same room (numbered (suc n) es) k ≡ after key same room es k)
          → and_then (cond b (some (put_at (index_of (has key same (key a)) l) a l)) none) (in_turn (step key same room) (numbered (suc n) es))
          ≡ and_then (cond b (some (put_at (index_of (has key same (key a)) l) a l)) none) (in_turn (step key same room) es)
      go true r = r (put_at (index_of (has key same (key a)) l) a l)
      go false r = refl
  numbered_after room n (remove k ∷ es) l = numbered_after room (suc n) es _

  -- looking goes on behind what was read
  pub look_append : (κ : K) (es more : List (Event A K)) (o : Option (ℕ × A)) → look_on key same κ (es ++ more) o ≡ look_on key same κ more (look_on key same κ es o)
  look_append κ es more o = reading_append (look_step key same κ) es more o

  -- and so do the rows
  pub rows_append : (f : K → Option (ℕ × A)) (es more : List (Event A K)) → rows key same f (es ++ more) ≡ rows key same f es ++ rows key same f more
  rows_append f [] more = refl
  rows_append f (clear ∷ es) more = rows_append f es more
  rows_append f (put n a ∷ es) more = ap (born_at n (f (key a))) (rows_append f es more) ∙ go (f (key a))
    where
      go : (o : Option (ℕ × A)) → born_at n o (rows key same f es ++ rows key same f more) ≡ born_at n o (rows key same f es) ++ rows key same f more
      go none = refl
      go (some e) = by (eqb e.0 n)
        where
          by : (b : Bool) → cond b (e ∷ (rows key same f es ++ rows key same f more)) (rows key same f es ++ rows key same f more)
              ≡ cond b (e ∷ rows key same f es) (rows key same f es) ++ rows key same f more
          by true = refl
          by false = refl
  rows_append f (remove k ∷ es) more = rows_append f es more

-- ---- places that rise

-- behind those that were read
rising_append : {A K : Type 0} (n m : ℕ) (es more : List (Event A K)) → n ≤ m → Rising n es → Before m es → Rising m more → Rising n (es ++ more)
rising_append n m [] more h r b q = rising_from n m more h q
rising_append n m (clear ∷ es) more h r b q = rising_append n m es more h r b q
rising_append n m (put j a ∷ es) more h r b q = (r.0, rising_append (suc j) m es more b.0 r.1 b.1 q)
rising_append n m (remove k ∷ es) more h r b q = rising_append n m es more h r b q

-- and end where the last end
before_append : {A K : Type 0} (m p : ℕ) (es more : List (Event A K)) → m ≤ p → Before m es → Before p more → Before p (es ++ more)
before_append m p [] more h b q = q
before_append m p (clear ∷ es) more h b q = before_append m p es more h b q
before_append m p (put j a ∷ es) more h b q = (omega (arith, b.0), before_append m p es more h b.1 q)
before_append m p (remove k ∷ es) more h b q = before_append m p es more h b q

-- SPANS-APPEND: events, and then others at later places
pub spans_append : {A K : Type 0} (n m p : ℕ) (es more : List (Event A K)) → n ≤ m → m ≤ p → Spans n m es → Spans m p more → Spans n p (es ++ more)
spans_append n m p es more h g a b = (rising_append n m es more h a.0 a.1 b.0, before_append m p es more g a.1 b.1)

-- entries end behind where they start
stands_forward : {E : Type 0} (n m : ℕ) (es : List (ℕ × E)) → Stands n m es → n ≤ m
stands_forward n m [] h = h
stands_forward n m (e ∷ es) h = let q = stands_forward (suc e.0) m es h.1 in omega (arith, q, h.0)

-- entries that are put where they stand
puts_span : {E A K : Type 0} (made : E → A) (named : E → K) (n m : ℕ) (es : List (ℕ × E)) → Stands n m es → Spans {A = A} {K = K} n m (map (λ e. put e.0 (made e.1)) es)
puts_span made named n m [] h = (tt, tt)
puts_span {A = A} {K = K} made named n m (e ∷ es) h =
    let q : Spans {A = A} {K = K} (suc e.0) m (map (λ x. put x.0 (made x.1)) es) = puts_span made named (suc e.0) m es h.1 in
    ((h.0, q.0), (stands_forward (suc e.0) m es h.1, q.1))

-- entries that go have no place
drops_span : {E A K : Type 0} (made : E → A) (named : E → K) (n m : ℕ) (es : List (ℕ × E)) → Spans {A = A} {K = K} n m (map (λ e. remove (named e.1)) es)
drops_span made named n m [] = (tt, tt)
drops_span made named n m (e ∷ es) = drops_span made named n m es

-- BY-SPAN: the events of a setting's entries are where those stand
pub by_span : {E A K : Type 0} (made : E → A) (named : E → K) (n m : ℕ) (o : Operation) (es : List (ℕ × E)) → Stands n m es → Spans n m (events_by made named o es)
by_span made named n m Add es h = puts_span made named n m es h
by_span made named n m Delete es h = drops_span made named n m es
by_span made named n m Replace es h = puts_span made named n m es h
