-- A part that holds n slots of w bytes with a key of k bytes at o, and behind them an order of those in use. Assumes nothing.
use Rattle.std.specs.Prelude.{ℕ, Option, Some, None, suc, ◌+◌, ◌*◌, ◌-◌, ◌≤◌, ◌<◌, ◌≡◌, true, false, List, ◌++◌, map, length, take, drop, get_or}
use Rattle.lists.specs.Every.{All}
use Rattle.slots.specs.Slots.{pad}
use Rattle.orders.specs.Orders.{before, order_of, Ascends, DistinctTo, lift}

-- the key of slot p
abbrev pub key_at : (w o k : ℕ) → List ℕ → ℕ → List ℕ
key_at w o k s p = take k (drop (p * w + o) s)

-- an order in n bytes: each position plus one, and zeros behind
abbrev pub order_bytes : ℕ → List ℕ → List ℕ
order_bytes n ps = pad 0 n (map suc ps)

-- s has room for n slots and their order, and one byte names a position
pub record Shaped (w o k n : ℕ) (s : List ℕ) : Type 0 where
  pub wide : 0 < w
  pub inside : o + k ≤ w
  pub size : length s ≡ n * w + n
  pub few : n ≤ 255

-- s holds the order of its first count slots, whose keys are distinct
pub record InOrder (w o k n count : ℕ) (s : List ℕ) : Type 0 where
  pub room : count ≤ n
  pub distinct : DistinctTo (key_at w o k s) count
  pub bytes : drop (n * w) s ≡ order_bytes n (order_of (key_at w o k s) count)

-- what a lookup answers: a slot that has the key, or nothing where none has
abbrev pub Finds : (w o k count : ℕ) → (s key : List ℕ) → Option ℕ → Type 0
Finds w o k count s key (Some p) = (p < count) × (key_at w o k s p ≡ key)
Finds w o k count s key None = (p : ℕ) → p < count → key_at w o k s p ≡ key → ⊥

-- t is s with the slot behind the first count in order too
abbrev pub Inserted : (w o k n count : ℕ) → (s t : List ℕ) → Type 0
Inserted w o k n count s t = Shaped w o k n s → count < n → DistinctTo (key_at w o k s) (suc count) → drop (n * w) s ≡ order_bytes n (order_of (key_at w o k s) count)
    → t ≡ take (n * w) s ++ order_bytes n (order_of (key_at w o k s) (suc count))

-- t is s with position p out of the order of any keys
abbrev pub Dropped : (n p : ℕ) → (s t : List ℕ) → Type 0
Dropped n p s t = (w count : ℕ) (key : ℕ → List ℕ) → length s ≡ n * w + n → n ≤ 255 → count < n → p ≤ count → DistinctTo key (suc count) → drop (n * w) s ≡ order_bytes n (order_of key (suc count))
    → t ≡ take (n * w) s ++ order_bytes n (order_of (λ q. key (lift p q)) count)

-- ---- inner steps: no promise cites these

-- slot p stands in s, and the key in it
pub record InSlot (w o k p size : ℕ) : Type 0 where
  pub wide : 0 < w
  pub inside : o + k ≤ w
  pub there : p * w + w ≤ size

-- s lists positions ps of its slots, by ascending keys
pub record Lists (w o k n count : ℕ) (s ps : List ℕ) : Type 0 where
  pub shape : Shaped w o k n s
  pub room : count ≤ n
  pub many : length ps ≡ count
  pub below : All (λ p. p < n) ps
  pub ascends : Ascends (key_at w o k s) ps
  pub bytes : drop (n * w) s ≡ order_bytes n ps

-- the listed keys before place i stand before the key, and those from place j on do not
pub record Parts (at : ℕ → List ℕ) (ps : List ℕ) (key : List ℕ) (i j : ℕ) : Type 0 where
  pub smaller : (m : ℕ) → m < i → before (at (get_or ps m 0)) key ≡ true
  pub others : (m : ℕ) → j ≤ m → m < length ps → before (at (get_or ps m 0)) key ≡ false

-- entry i, from `base` on, names one of count slots, whose key stands behind that of the entry before it
pub record EntryOk (at : ℕ → List ℕ) (count : ℕ) (s : List ℕ) (base i : ℕ) : Type 0 where
  pub some : 0 < get_or s (base + i) 0
  pub used : get_or s (base + i) 0 ≤ count
  pub behind : 0 < i → before (at (get_or s (base + i - 1) 0 - 1)) (at (get_or s (base + i) 0 - 1)) ≡ true
