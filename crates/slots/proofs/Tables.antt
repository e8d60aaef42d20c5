-- Laws of tables of slots: their lengths, and what reading and changing a place does. Assumes nothing.
use Rattle.lists.proofs.Kit.{◌≡◌, refl, sym, ap, ap₂, ◌∙◌, Bool, true, false, cond, true≢false, Option, none, some, List, [], ◌∷◌, ◌++◌, map, map-map, ℕ, zero, suc, ◌+◌, ◌*◌, ◌-◌, ◌≤◌, ◌<◌, not-suc-le-zero, le_of_suc-le-suc, suc-mul, zero-mul, add_comm, mul-le-mul_right, arith, put_mid, mid_of, mid_len, length, set, take, drop, get_or, replicate, length-set, length-map, length-replicate, replicate-append-replicate}
use Rattle.lists.specs.Bytes.{Bytes}
use Rattle.lists.proofs.Bytes.{bytes_zeros}
use Rattle.lists.specs.Every.{All}
use Rattle.lists.proofs.Every.{all_get, all_made, all_map, all_set}
use Rattle.lists.proofs.Seqs.{map_set, get_d_map}
use Rattle.slots.specs.Slots.{flat, pad, slot, places, front, Present, Slots, unless, index_of, put_at, zeros?, Placed, sum}
use Rattle.slots.proofs.Pads.{pad_length, pad_nil, pad_after}
use Rattle.slots.proofs.Runs.{copy_whole, zeros_all}
use Rattle.slots.proofs.Parts.{flat_bytes, get_d_length, parts_get, parts_put, slots_length}

-- ---- slots, read and changed

-- k slots of w bytes stand before slot k
slots_before : (w : ℕ) (xs : List (List ℕ)) (k : ℕ) → Slots w xs → k ≤ length xs → sum (take k (map length xs)) ≡ k * w
slots_before w xs zero q h = sym (zero-mul w)
slots_before w [] (suc k) q h = absurd (not-suc-le-zero h)
slots_before w (x ∷ xs) (suc k) q h = omega (arith, q.0, slots_before w xs k q.1 (le_of_suc-le-suc h), suc-mul k w)

module _ (w : ℕ) (xs : List (List ℕ)) (q : Slots w xs) (k : ℕ) (h : k < length xs) where
  -- where slot k starts
  start : sum (take k (map length xs)) ≡ k * w
  start = slots_before w xs k q (omega arith)

  -- how wide it is
  wide : get_or (map length xs) k 0 ≡ w
  wide = sym (get_d_length xs k) ∙ all_get (λ x. length x ≡ w) xs k [] q h

  -- slot k is read
  pub flat_get : mid_of (k * w) w (flat xs) ≡ get_or xs k []
  flat_get = ap₂ (λ (i j : ℕ). mid_of i j (flat xs)) (sym start) (sym wide) ∙ parts_get xs (map length xs) refl k h

  -- slot k comes back as y
  pub flat_put : (y : List ℕ) → put_mid (k * w) w (flat xs) y ≡ flat (set xs k y)
  flat_put y = ap₂ (λ (i j : ℕ). put_mid i j (flat xs) y) (sym start) (sym wide) ∙ parts_put xs (map length xs) refl k h y

-- elements of w bytes, filled up with what is all zeros, are their bytes filled up with zeros
pub flat_pad : {A : Type 0} (w : ℕ) (g : A → List ℕ) → ((a : A) → length (g a) ≡ w) → (d : A) → g d ≡ replicate w 0 → (n : ℕ) (xs : List A) → flat (map g (pad d n xs)) ≡ pad 0 (n * w) (flat (map g xs))
flat_pad w g long d z zero xs = rw zero-mul
flat_pad w g long d z (suc n) [] =
    let s : suc n * w ≡ w + n * w = suc-mul n w ∙ add_comm (n * w) w in
    (rw (z, flat_pad w g long d z n [], s, pad_nil {A = ℕ} 0 (n * w), pad_nil {A = ℕ} 0 (w + n * w)) (replicate-append-replicate w (n * w) 0))
flat_pad w g long d z (suc n) (x ∷ xs) =
    let s : suc n * w ≡ length (g x) + n * w = suc-mul n w ∙ add_comm (n * w) w ∙ ap (λ (i : ℕ). i + n * w) (sym (long x)) in
    (rw (flat_pad w g long d z n xs, s) (sym (pad_after 0 (g x) (flat (map g xs)) (n * w))))

-- ---- a table whose entries' bytes are w long

module _ {A : Type 0} (w : ℕ) (f : A → List ℕ) (long : (a : A) → length (f a) ≡ w) where
  -- a slot has w bytes
  pub slot_long : (o : Option A) → length (slot w f o) ≡ w
  slot_long none = length-replicate w 0
  slot_long (some a) = long a

  -- a table's slots have w bytes each
  pub table_slots : (os : List (Option A)) → Slots w (map (slot w f) os)
  table_slots os = all_made (λ x. length x ≡ w) (slot w f) slot_long os

  -- a table of n places has n * w bytes
  pub places_length : (os : List (Option A)) → length (places w f os) ≡ length os * w
  places_length os = slots_length w (map (slot w f) os) (table_slots os) ∙ ap (λ (n : ℕ). n * w) (length-map os (slot w f))

  -- the bytes of place k
  pub place_get : (os : List (Option A)) (k : ℕ) → k < length os → mid_of (k * w) w (places w f os) ≡ slot w f (get_or os k none)
  place_get os k h = flat_get w (map (slot w f) os) (table_slots os) k (rw length-map h) ∙ get_d_map (slot w f) os k none [] h

  -- the bytes of an entry in place k, or zeros, make the table with that entry, or none, in place k
  pub place_put : (os : List (Option A)) (k : ℕ) (o : Option A) → k < length os → put_mid (k * w) w (places w f os) (slot w f o) ≡ places w f (set os k o)
  place_put os k o h = flat_put w (map (slot w f) os) (table_slots os) k (rw length-map h) (slot w f o) ∙ ap flat (sym (map_set (slot w f) os k o))

  -- a list table is its entries' bytes, filled up with zeros
  pub front_bytes : (n : ℕ) (xs : List A) → places w f (front n xs) ≡ pad 0 (n * w) (flat (map f xs))
  front_bytes n xs = flat_pad w (slot w f) slot_long none refl n (map some xs) ∙ ap (λ (l : List (List ℕ)). pad 0 (n * w) (flat l)) (map-map (slot w f) some xs)

-- ---- a slot of s, lent from `at` on

-- it has w bytes
pub slot_wide : (s : List ℕ) (at w : ℕ) → at + w ≤ length s → length (mid_of at (at + w - at) s) ≡ w
slot_wide s at w h = mid_len at (at + w) s h ∙ omega arith

-- w bytes copied into it are what comes back
pub slot_copied : (s x y : List ℕ) (at w : ℕ) → at + w ≤ length s → length x ≡ w → y ≡ take (length (mid_of at (at + w - at) s)) x ++ drop (length x) (mid_of at (at + w - at) s) → y ≡ x
slot_copied s x y at w h l e = e ∙ copy_whole x (mid_of at (at + w - at) s) (slot_wide s at w h ∙ sym l)

-- place k of an indexed table
module _ {A : Type 0} (P : A → Type 0) (w : ℕ) (f : A → List ℕ) (long : (a : A) → length (f a) ≡ w) (n : ℕ) (os : List (Option A)) (s : List ℕ) (t : Placed P w f n os s) (k : ℕ) (h : k < n) where
  -- there is one
  there : k < length os
  there = omega (arith, t.many)

  -- it stands in s
  pub place_fits : k * w + w ≤ length s
  place_fits =
      let m : suc k * w ≤ n * w = mul-le-mul_right w h in
      omega (arith, suc-mul k w, ap length t.bytes, places_length w f long os, ap (λ (i : ℕ). i * w) t.many)

  -- it is read
  pub place_read : mid_of (k * w) (k * w + w - k * w) s ≡ slot w f (get_or os k none)
  place_read = let e : k * w + w - k * w ≡ w = omega arith in rw (e, t.bytes) (place_get w f long os k there)

  -- an entry's bytes, or zeros, come back
  pub place_written : (o : Option A) (y : List ℕ) → Present P o → y ≡ slot w f o → Placed P w f n (set os k o) (put_mid (k * w) (k * w + w - k * w) s y)
  place_written o y p q =
      let e : k * w + w - k * w ≡ w = omega arith in
      record { many = length-set os k o ∙ t.many; each = all_set (Present P) os k o p t.each; bytes = rw (e, t.bytes, q) (place_put w f long os k o there) }

  -- zeros are no entry
  pub place_none : ((a : A) → P a → zeros? (f a) ≡ false) → zeros? (mid_of (k * w) (k * w + w - k * w) s) ≡ true → get_or os k none ≡ none
  place_none shown z = go (get_or os k none) (all_get (Present P) os k none t.each there) (ap zeros? (sym place_read) ∙ z)
    where
      go : (o : Option A) → Present P o → zeros? (slot w f o) ≡ true → o ≡ none
      go none p e = refl
      go (some a) p e = absurd (true≢false (sym e ∙ shown a p))

  -- what is not zeros is an entry
  pub place_some : zeros? (mid_of (k * w) (k * w + w - k * w) s) ≡ false → (a : A) × (get_or os k none ≡ some a) × P a
  place_some z = go (get_or os k none) (all_get (Present P) os k none t.each there) (ap zeros? (sym place_read) ∙ z)
    where
      go : (o : Option A) → Present P o → zeros? (slot w f o) ≡ false → (a : A) × (o ≡ some a) × P a
      go none p e = absurd (true≢false (sym (zeros_all w) ∙ e))
      go (some a) p e = (a, refl, p)

-- ---- entries from the front

-- a list table has n places
pub front_length : {A : Type 0} (n : ℕ) (ls : List A) → length (front n ls) ≡ n
front_length n ls = pad_length none n (map some ls)

-- a list table with no entry has only empty places
pub front_nil : {A : Type 0} (n : ℕ) → front {A = A} n [] ≡ replicate n none
front_nil n = pad_nil none n

-- a table with no entry is zeros
pub places_nil : {A : Type 0} (w : ℕ) (f : A → List ℕ) (n : ℕ) → places w f (replicate n none) ≡ replicate (n * w) 0
places_nil w f zero = rw zero-mul
places_nil w f (suc n) =
    let s : suc n * w ≡ w + n * w = suc-mul n w ∙ add_comm (n * w) w in
    (rw (places_nil w f n, s) (replicate-append-replicate w (n * w) 0))

-- a table of entries that are bytes is bytes
pub places_bytes : {A : Type 0} (P : A → Type 0) (w : ℕ) (f : A → List ℕ) → ((a : A) → P a → Bytes (f a)) → (os : List (Option A)) → All (Present P) os → Bytes (places w f os)
places_bytes {A = A} P w f h os p = flat_bytes (map (slot w f) os) (all_map (Present P) Bytes (slot w f) go os p)
  where
    go : (o : Option A) → Present P o → Bytes (slot w f o)
    go none q = bytes_zeros w
    go (some a) q = h a q

-- what the entries of a list table are, its places hold
pub all_front : {A : Type 0} (P : A → Type 0) (n : ℕ) (xs : List A) → All P xs → All (Present P) (front n xs)
all_front P zero xs p = tt
all_front P (suc n) [] p = (tt, all_front P n [] tt)
all_front P (suc n) (x ∷ xs) p = (p.0, all_front P n xs p.1)

-- ---- lists of entries

-- an entry put past the last is added at the end
pub put_end : {A : Type 0} (ls : List A) (a : A) → put_at (length ls) a ls ≡ ls ++ (a ∷ [])
put_end [] a = refl
put_end (b ∷ bs) a = ap (λ m. b ∷ m) (put_end bs a)

-- where no entry is sought, none is found
pub index_none : {A : Type 0} (ls : List A) → index_of (λ a. false) ls ≡ length ls
index_none [] = refl
index_none (a ∷ ls) = ap suc (index_none ls)

-- what is found stands among the entries, or just behind them
pub index_le : {A : Type 0} (p : A → Bool) (ls : List A) → index_of p ls ≤ length ls
index_le p [] = omega arith
index_le p (a ∷ ls) = go (p a) (index_le p ls)
  where
    go : (b : Bool) → index_of p ls ≤ length ls → cond b 0 (suc (index_of p ls)) ≤ suc (length ls)
    go true h = omega arith
    go false h = omega arith

-- taking entries out leaves no more
pub unless_short : {A : Type 0} (p : A → Bool) (ls : List A) → length (unless p ls) ≤ length ls
unless_short p [] = omega arith
unless_short p (a ∷ ls) = go (p a) (unless_short p ls)
  where
    go : (b : Bool) → length (unless p ls) ≤ length ls → length (cond b (unless p ls) (a ∷ unless p ls)) ≤ suc (length ls)
    go true h = omega arith
    go false h = omega arith

-- what holds of all entries holds of those that stay
pub unless_all : {A : Type 0} (P : A → Type 0) (p : A → Bool) (ls : List A) → All P ls → All P (unless p ls)
unless_all P p [] q = tt
unless_all P p (a ∷ ls) q = go (p a) (unless_all P p ls q.1)
  where
    go : (b : Bool) → All P (unless p ls) → All P (cond b (unless p ls) (a ∷ unless p ls))
    go true h = h
    go false h = (q.0, h)

-- and of those that stand after one is put
pub put_all : {A : Type 0} (P : A → Type 0) (k : ℕ) (a : A) (ls : List A) → P a → All P ls → All P (put_at k a ls)
put_all P k a [] p q = (p, tt)
put_all P zero a (b ∷ bs) p q = (p, q.1)
put_all P (suc k) a (b ∷ bs) p q = (q.0, put_all P k a bs p q.1)

-- an entry put in a used place or the first free one of n leaves at most n
pub put_short : {A : Type 0} (k n : ℕ) (a : A) (ls : List A) → k < n → length ls ≤ n → length (put_at k a ls) ≤ n
put_short k n a [] h l = omega arith
put_short zero n a (b ∷ bs) h l = l
put_short (suc k) zero a (b ∷ bs) h l = absurd (not-suc-le-zero h)
put_short (suc k) (suc n) a (b ∷ bs) h l = omega (arith, put_short k n a bs (le_of_suc-le-suc h) (le_of_suc-le-suc l))
