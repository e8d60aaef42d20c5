-- Row i with no table, as a walk over the events comes to it. Assumes nothing.
use Rattle.lists.proofs.Kit.{ℕ, zero, suc, ◌≡◌, refl, ap, ◌∙◌, ◌≢◌, Bool, List, [], ◌∷◌, map, Option, none, some, get_or}
use Rattle.events.specs.Events.{Event, put, Decides, entry, Rising, numbered, after, look, rows, row}
use Rattle.events.proofs.Numbering.{numbered_rise, numbered_after}
use Rattle.events.proofs.Orders.{passed, shown, look_order}

-- a row without its birth
row_entry : {A : Type 0} (l : List (ℕ × A)) (i : ℕ) → get_or (map some (map (λ e. e.1) l)) i none ≡ entry (get_or (map some l) i none)
row_entry [] i = refl
row_entry (e ∷ l) zero = refl
row_entry (e ∷ l) (suc i) = row_entry l i

module _ {A K : Type 0} (key : A → K) (same : K → K → Bool) where
  -- "the entry at position i is that of the i-th event whose own key is found with its own place"
  pub row_is : Decides same → (room : ℕ) (es : List (Event A K)) (l : List A) (i : ℕ) → Rising 0 es → after key same room es [] ≡ some l → get_or (map some l) i none ≡ entry (row key same (λ κ. look key same κ es) es i)
  row_is d room es l i r e = ap (λ (k : List A). get_or (map some k) i none) (look_order key same d room es l r e) ∙ row_entry (rows key same (λ κ. look key same κ es) es) i

  -- and so with events that are counted from 0
  pub numbered_row : Decides same → (room : ℕ) (es : List (Event A K)) (l : List A) (i : ℕ) → after key same room es [] ≡ some l
      → get_or (map some l) i none ≡ entry (row key same (λ κ. look key same κ (numbered 0 es)) (numbered 0 es) i)
  numbered_row d room es l i e = row_is d room (numbered 0 es) l i (numbered_rise 0 es) (numbered_after key same room 0 es [] ∙ e)

  -- ---- a turn of the walk: f is what a key is found with in all events, and es are the events to come

  module _ (f : K → Option (ℕ × A)) (n : ℕ) (a : A) (es : List (Event A K)) where
    -- the entry's key is found, and was born here: this is a row
    pub row_here : (e : ℕ × A) → f (key a) ≡ some e → e.0 ≡ n → row key same f (put n a ∷ es) 0 ≡ some e
    row_here e p q = ap (λ (l : List (ℕ × A)). get_or (map some l) 0 none) (shown n (f (key a)) e (rows key same f es) p q)

    pub row_behind : (e : ℕ × A) (i : ℕ) → f (key a) ≡ some e → e.0 ≡ n → row key same f (put n a ∷ es) (suc i) ≡ row key same f es i
    row_behind e i p q = ap (λ (l : List (ℕ × A)). get_or (map some l) (suc i) none) (shown n (f (key a)) e (rows key same f es) p q)

    -- it is not found, or was born elsewhere: this is none
    pub row_passed : (i : ℕ) → ((e : ℕ × A) → f (key a) ≡ some e → e.0 ≢ n) → row key same f (put n a ∷ es) i ≡ row key same f es i
    row_passed i h = ap (λ (l : List (ℕ × A)). get_or (map some l) i none) (passed n (f (key a)) (rows key same f es) h)
