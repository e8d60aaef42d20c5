-- The bytes of an order: what stands in them, and what they are once a position is put in or left out. Assumes nothing.
use Prim.Native.Nat.{ℕ, zero, suc, ◌-◌, ◌≤◌, ◌<◌}
use mathlib.Core.Path.{◌≡◌, refl, sym, ap, ap₂, ◌∙◌, subst}
use mathlib.Core.Bool.{Bool, true, false}
use mathlib.Core.List.{List, [], ◌∷◌, ◌++◌, map}
use native.Mathlib.Omega.{arith}
use native.Mathlib.Nat.{not-suc-le-zero, le_of_suc-le-suc}
use borrow.Author.Tests.{ltb-true, ltb-false, eqb-true, eqb-false, lt-ltb, le-ltb, eq-eqb, ne_eqb}
use lib.Dec.{ltb, eqb}
use lib.ListN.{length, get_or, take, drop}
use Rattle.lists.specs.Every.{All}
use Rattle.lists.proofs.Every.{all_get, all_turn}
use Rattle.slots.specs.Slots.{pad, zeros?}
use Rattle.slots.proofs.Pads.{pad_nil}
use Rattle.slots.proofs.Runs.{zeros_are}
use Rattle.orders.specs.Orders.{before, insert, times, Ascends, lower, without}
use Rattle.orders.specs.OrderParts.{order_bytes}
use Rattle.orders.proofs.Before.{before_trans}
use Rattle.orders.proofs.Times.{Head, head, rest, times_head}

-- ---- what stands in the bytes

-- entry m is a position plus one
pub bytes_read : (n : ℕ) (ps : List ℕ) (m : ℕ) → length ps ≤ n → m < length ps → get_or (order_bytes n ps) m 0 ≡ suc (get_or ps m 0)
bytes_read n [] m h k = absurd (not-suc-le-zero k)
bytes_read zero (p ∷ ps) m h k = absurd (not-suc-le-zero h)
bytes_read (suc n) (p ∷ ps) zero h k = refl
bytes_read (suc n) (p ∷ ps) (suc m) h k = bytes_read n ps m (le_of_suc-le-suc h) (le_of_suc-le-suc k)

-- behind the last stand zeros
pub bytes_behind : (n : ℕ) (ps : List ℕ) → zeros? (drop (length ps) (order_bytes n ps)) ≡ true
bytes_behind zero [] = refl
bytes_behind zero (p ∷ ps) = refl
bytes_behind (suc n) [] = bytes_behind n []
bytes_behind (suc n) (p ∷ ps) = bytes_behind n ps

-- bytes that are not 0, with zeros behind them, are those of the positions that they name
pub bytes_named : (count : ℕ) (bs : List ℕ) → count ≤ length bs → All (λ b. 0 < b) (take count bs) → zeros? (drop count bs) ≡ true → bs ≡ order_bytes (length bs) (map (λ b. b - 1) (take count bs))
bytes_named zero bs h a z = zeros_are bs z ∙ sym (pad_nil 0 (length bs))
bytes_named (suc count) [] h a z = absurd (not-suc-le-zero h)
bytes_named (suc count) (b ∷ bs) h a z = ap₂ (λ x y. x ∷ y) (let p : 0 < b = a.0 in omega arith) (bytes_named count bs (le_of_suc-le-suc h) a.1 z)

-- what each place has, all have
pub all_places : (P : ℕ → Type 0) (xs : List ℕ) → ((m : ℕ) → m < length xs → P (get_or xs m 0)) → All P xs
all_places P [] h = tt
all_places P (x ∷ xs) h = (h 0 (omega arith), all_places P xs (λ m k. h (suc m) (omega arith)))

-- ---- ascending keys by places

-- of two places the first has the smaller key
pub ascends_at : (key : ℕ → List ℕ) (ps : List ℕ) (i j : ℕ) → Ascends key ps → i < j → j < length ps → before (key (get_or ps i 0)) (key (get_or ps j 0)) ≡ true
ascends_at key [] i j a h k = absurd (not-suc-le-zero k)
ascends_at key (p ∷ ps) i zero a h k = absurd (not-suc-le-zero h)
ascends_at key (p ∷ ps) zero (suc j) a h k = all_get (λ q. before (key p) (key q) ≡ true) ps j 0 a.0 (le_of_suc-le-suc k)
ascends_at key (p ∷ ps) (suc i) (suc j) a h k = ascends_at key ps i j a.1 (le_of_suc-le-suc h) (le_of_suc-le-suc k)

-- each key before the next one's is each before all that follow
pub ascends_made : (key : ℕ → List ℕ) (ps : List ℕ) → ((m : ℕ) → suc m < length ps → before (key (get_or ps m 0)) (key (get_or ps (suc m) 0)) ≡ true) → Ascends key ps
ascends_made key [] h = tt
ascends_made key (p ∷ []) h = (tt, tt)
ascends_made key (p ∷ q ∷ ps) h =
    let r = ascends_made key (q ∷ ps) (λ m k. h (suc m) (omega arith)) in
    let t : before (key p) (key q) ≡ true = h 0 (omega arith) in
    ((t, all_turn (λ x. before (key q) (key x) ≡ true) (λ x. before (key p) (key x) ≡ true) (λ x u. before_trans (key p) (key q) (key x) t u) ps r.0), r)

-- a listed position has a place
pub record Place (p : ℕ) (ps : List ℕ) : Type 0 where
  pub at : ℕ
  pub within : at < length ps
  pub is : get_or ps at 0 ≡ p

pub listed_place : (p : ℕ) (ps : List ℕ) → 0 < times p ps → Place p ps
listed_place p [] h = absurd (not-suc-le-zero h)
listed_place p (x ∷ ps) h = go (times_head p x ps) (listed_place p ps)
  where
    go : Head p x ps → (0 < times p ps → Place p ps) → Place p (x ∷ ps)
    go (head i e) r = record { at = 0; within = omega arith; is = i }
    go (rest d e) r = let y = r (subst (λ (n : ℕ). 0 < n) e h) in record { at = suc y.at; within = omega (arith, y.within); is = y.is }

-- ---- a position put in

-- where p stands among positions in order
pub insert_at : (key : ℕ → List ℕ) (p : ℕ) (ps : List ℕ) (r : ℕ) → r ≤ length ps → ((m : ℕ) → m < r → before (key (get_or ps m 0)) (key p) ≡ true) → ((m : ℕ) → r ≤ m → m < length ps → before (key (get_or ps m 0)) (key p) ≡ false)
    → insert key p ps ≡ take r ps ++ (p ∷ drop r ps)
insert_at key p [] zero h a b = refl
insert_at key p [] (suc r) h a b = absurd (not-suc-le-zero h)
insert_at key p (q ∷ ps) zero h a b = rw (b 0 (omega arith) (omega arith))
insert_at key p (q ∷ ps) (suc r) h a b =
    rw (a 0 (omega arith)) (ap (λ (l : List ℕ). q ∷ l) (insert_at key p ps r (le_of_suc-le-suc h) (λ m k. a (suc m) (omega arith)) (λ m k l. b (suc m) (omega arith) (omega arith))))

-- one byte falls out
pad_out : (n : ℕ) (xs : List ℕ) → take n (pad 0 (suc n) xs) ≡ pad 0 n xs
pad_out zero xs = refl
pad_out (suc n) [] = ap (λ (l : List ℕ). 0 ∷ l) (pad_out n [])
pad_out (suc n) (x ∷ xs) = ap (λ (l : List ℕ). x ∷ l) (pad_out n xs)

-- the bytes with a position put in
pub bytes_put : (n : ℕ) (ps : List ℕ) (r p : ℕ) → r ≤ length ps → length ps < n → take n (take r (order_bytes n ps) ++ (suc p ∷ drop r (order_bytes n ps))) ≡ order_bytes n (take r ps ++ (p ∷ drop r ps))
bytes_put zero ps r p h k = absurd (not-suc-le-zero k)
bytes_put (suc n) ps zero p h k = ap (λ (l : List ℕ). suc p ∷ l) (pad_out n (map suc ps))
bytes_put (suc n) [] (suc r) p h k = absurd (not-suc-le-zero h)
bytes_put (suc n) (q ∷ ps) (suc r) p h k = ap (λ (l : List ℕ). suc q ∷ l) (bytes_put n ps r p (le_of_suc-le-suc h) (le_of_suc-le-suc k))

-- ---- a position left out

-- a byte that stays is the position that stays, plus one
lower_suc : (p q : ℕ) → (q ≡ p → ⊥) → lower (suc p) (suc q) ≡ suc (lower p q)
lower_suc p q d = go (ltb p q) refl
  where
    go : (c : Bool) → ltb p q ≡ c → lower (suc p) (suc q) ≡ suc (lower p q)
    go true e = let l : p < q = ltb-true p q e in rw (e, lt-ltb (suc p) (suc q) (omega arith)) (omega arith)
    go false e = let l : q ≤ p = ltb-false p q e in rw (e, le-ltb (suc p) (suc q) (omega arith))

-- zeros stay
zeros_stay : (p n m : ℕ) → pad 0 m (without (suc p) (pad 0 n [])) ≡ pad 0 m []
zeros_stay p zero m = refl
zeros_stay p (suc n) zero = refl
zeros_stay p (suc n) (suc m) = rw (ne_eqb 0 (suc p) (λ e. omega arith), le-ltb (suc p) 0 (omega arith)) (ap (λ (l : List ℕ). 0 ∷ l) (zeros_stay p n m))

-- the bytes with a position left out
pub bytes_out : (p m n : ℕ) (ps : List ℕ) → length ps ≤ n → pad 0 m (without (suc p) (order_bytes n ps)) ≡ order_bytes m (without p ps)
bytes_out p m n [] h = zeros_stay p n m
bytes_out p m zero (q ∷ ps) h = absurd (not-suc-le-zero h)
bytes_out p m (suc n) (q ∷ ps) h = go (eqb q p) refl m (λ i. bytes_out p i n ps (le_of_suc-le-suc h))
  where
    go : (c : Bool) → eqb q p ≡ c → (i : ℕ) → ((j : ℕ) → pad 0 j (without (suc p) (order_bytes n ps)) ≡ order_bytes j (without p ps)) → pad 0 i (without (suc p) (suc q ∷ order_bytes n ps)) ≡ order_bytes i (without p (q ∷ ps))
    go true e i r = let f : suc q ≡ suc p = ap suc (eqb-true q p e) in rw (e, eq-eqb (suc q) (suc p) f) (r i)
    go false e zero r = refl
    go false e (suc i) r =
        let d = eqb-false q p e in
        rw (e, ne_eqb (suc q) (suc p) (λ f. d (omega arith))) (ap₂ (λ x y. x ∷ y) (lower_suc p q d) (r i))
