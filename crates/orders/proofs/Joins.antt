-- The order kept behind the places of a list: what the functions over any part promise, said of the slots in use. Assumes nothing.
use Rattle.lists.proofs.Kit.{◌≡◌, refl, sym, ap, ap₂, ◌∙◌, subst, List, [], ◌∷◌, ◌++◌, map, map-append, ℕ, zero, suc, ◌+◌, ◌*◌, ◌-◌, ◌≤◌, ◌<◌, not-suc-le-zero, le_of_suc-le-suc, suc-mul, mul-le-mul_right, arith, length, get_or, take, drop, replicate, length-append, length-drop, length-map, length-replicate, take-append-drop, take_at, drop_at, drop-drop, take-append-le, drop-append-le, length-take-le}
use lib.ListN.{get_or-append}
use Rattle.lists.proofs.Seqs.{get_d_map}
use Rattle.slots.specs.Slots.{flat, pad, Slots}
use Rattle.slots.proofs.Pads.{pad_length, pad_all}
use Rattle.slots.proofs.Parts.{slots_length}
use Rattle.slots.proofs.Tables.{flat_get}
use Rattle.orders.specs.Orders.{order_of, order, key_in, DistinctTo, DistinctKeys}
use Rattle.orders.specs.OrderParts.{key_at, order_bytes, Shaped, InOrder, Finds, Inserted, Dropped}
use Rattle.orders.specs.OrderedLists.{slot_key}
use Rattle.std.specs.Prelude.{Some, None}
use Rattle.orders.proofs.Laws.{order_of_same}
use Rattle.orders.proofs.KeyLists.{order_gone}

-- a key within the first w bytes
key_within : (x : List ℕ) (w o k : ℕ) → w ≤ length x → o + k ≤ w → take k (drop o (take w x)) ≡ take k (drop o x)
key_within x w o k h l =
    let a : length (take w x) ≡ w = length-take-le w x h in
    sym (ap (λ (y : List ℕ). take k (drop o y)) (sym (take-append-drop w x)) ∙ ap (take k) (drop-append-le o (take w x) (drop w x) (omega arith)) ∙ take-append-le k (drop o (take w x)) (drop w x) (omega (arith, length-drop o (take w x))))

-- a place in use is that of its slot
pad_used : {A : Type 0} (d e : A) (n : ℕ) (xs : List A) (p : ℕ) → length xs ≤ n → p < length xs → get_or (pad d n xs) p e ≡ get_or xs p e
pad_used d e n [] p h l = absurd (not-suc-le-zero l)
pad_used d e zero (x ∷ xs) p h l = absurd (not-suc-le-zero h)
pad_used d e (suc n) (x ∷ xs) zero h l = refl
pad_used d e (suc n) (x ∷ xs) (suc p) h l = pad_used d e n xs p (le_of_suc-le-suc h) (le_of_suc-le-suc l)

-- n places of w bytes, filled from the front
abbrev pub row : ℕ → ℕ → List (List ℕ) → List ℕ
row w n xs = flat (pad (replicate w 0) n xs)

module _ (w o k n : ℕ) (xs : List (List ℕ)) (inside : o + k ≤ w) (each : Slots w xs) (few : length xs ≤ n) (t : List ℕ) where
  row_slots : Slots w (pad (replicate w 0) n xs)
  row_slots = pad_all (replicate w 0) (λ x. length x ≡ w) (length-replicate w 0) n xs each

  -- the places' bytes
  pub row_long : length (row w n xs) ≡ n * w
  row_long = slots_length w (pad (replicate w 0) n xs) row_slots ∙ ap (λ (i : ℕ). i * w) (pad_length (replicate w 0) n xs)

  -- the key in place p is that of slot p
  pub part_key_is : (p : ℕ) → p < length xs → key_at w o k (row w n xs ++ t) p ≡ key_in (map (slot_key o k) xs) p
  part_key_is p h =
      let s = row w n xs in
      let l : length s ≡ n * w = row_long in
      let m : suc p * w ≤ n * w = mul-le-mul_right w (let x : suc p ≤ n = omega arith in x) in
      let v : suc p * w ≡ p * w + w = suc-mul p w in
      let a : drop (p * w + o) (s ++ t) ≡ drop (p * w + o) s ++ t = drop-append-le (p * w + o) s t (omega arith) in
      let b : take k (drop (p * w + o) s ++ t) ≡ take k (drop (p * w + o) s) = take-append-le k (drop (p * w + o) s) t (omega (arith, length-drop (p * w + o) s)) in
      let d : take k (drop (p * w + o) s) ≡ take k (drop o (drop (p * w) s)) = ap (take k) (sym (drop-drop o (p * w) s)) in
      let e : take k (drop o (drop (p * w) s)) ≡ take k (drop o (take w (drop (p * w) s))) = sym (key_within (drop (p * w) s) w o k (omega (arith, length-drop (p * w) s)) inside) in
      let g : take w (drop (p * w) s) ≡ get_or xs p [] = flat_get w (pad (replicate w 0) n xs) row_slots p (omega (arith, pad_length (replicate w 0) n xs)) ∙ pad_used (replicate w 0) [] n xs p few h in
      ap (take k) a ∙ b ∙ d ∙ e ∙ ap (slot_key o k) g ∙ sym (get_d_map (slot_key o k) xs p [] [] h)

  -- the order of the places is that of the slots' keys
  pub part_order : order_of (key_at w o k (row w n xs ++ t)) (length xs) ≡ order (map (slot_key o k) xs)
  part_order =
      order_of_same (key_at w o k (row w n xs ++ t)) (key_in (map (slot_key o k) xs)) (length xs) part_key_is ∙ ap (order_of (key_in (map (slot_key o k) xs))) (sym (length-map xs (slot_key o k)))

  -- distinct keys of slots are those of places
  pub part_distinct : DistinctKeys (map (slot_key o k) xs) → DistinctTo (key_at w o k (row w n xs ++ t)) (length xs)
  part_distinct d p q h l e =
      let m : length (map (slot_key o k) xs) ≡ length xs = length-map xs (slot_key o k) in
      d p q (omega arith) (omega arith) (sym (part_key_is p h) ∙ e ∙ part_key_is q l)

  distinct_part : DistinctTo (key_at w o k (row w n xs ++ t)) (length xs) → DistinctKeys (map (slot_key o k) xs)
  distinct_part d p q h l e =
      let m : length (map (slot_key o k) xs) ≡ length xs = length-map xs (slot_key o k) in
      let x : p < length xs = omega arith in
      let y : q < length xs = omega arith in
      d p q x y (part_key_is p x ∙ e ∙ sym (part_key_is q y))

  -- places with n bytes behind them have the shape
  pub part_shaped : 0 < w → length t ≡ n → n ≤ 255 → Shaped w o k n (row w n xs ++ t)
  part_shaped wide l h = record { wide = wide; inside = inside; size = length-append (row w n xs) t ∙ ap₂ (λ (a b : ℕ). a + b) row_long l; few = h }

  -- places in order: their keys are distinct, and their order stands behind them
  pub part_in_order : DistinctKeys (map (slot_key o k) xs) → t ≡ order_bytes n (order (map (slot_key o k) xs)) → InOrder w o k n (length xs) (row w n xs ++ t)
  part_in_order d e = record { room = few; distinct = part_distinct d; bytes = drop_at (row w n xs) t (n * w) row_long ∙ e ∙ ap (order_bytes n) (sym part_order) }

  pub in_order_part : InOrder w o k n (length xs) (row w n xs ++ t) → DistinctKeys (map (slot_key o k) xs) × (t ≡ order_bytes n (order (map (slot_key o k) xs)))
  in_order_part g = (distinct_part g.distinct, sym (drop_at (row w n xs) t (n * w) row_long) ∙ g.bytes ∙ ap (order_bytes n) part_order)

  -- the lookup among the places is one among the slots: one that has the key, or nothing where none has
  pub part_found : (x : List ℕ) (p : ℕ) → Finds w o k (length xs) (row w n xs ++ t) x (Some p) → (p < length xs) × (key_in (map (slot_key o k) xs) p ≡ x)
  part_found x p g = (g.0, sym (part_key_is p g.0) ∙ g.1)

  pub part_none : (x : List ℕ) → Finds w o k (length xs) (row w n xs ++ t) x None → (p : ℕ) → p < length xs → key_in (map (slot_key o k) xs) p ≡ x → ⊥
  part_none x g p h e = g p h (part_key_is p h ∙ e)

-- ---- changes

-- the slots without slot p have the keys without key p
map_gone : {A : Type 0} (key : A → List ℕ) (ls : List A) (p : ℕ) → map key (take p ls ++ drop (suc p) ls) ≡ take p (map key ls) ++ drop (suc p) (map key ls)
map_gone key [] zero = refl
map_gone key [] (suc p) = refl
map_gone key (a ∷ ls) zero = refl
map_gone key (a ∷ ls) (suc p) = ap (λ (l : List (List ℕ)). key a ∷ l) (map_gone key ls p)

module _ (w o k n : ℕ) (xs : List (List ℕ)) (wide : 0 < w) (inside : o + k ≤ w) (small : n ≤ 255) where
  -- a slot was added at the end, and the old order stands behind the places: the new one comes there
  pub part_inserted : (a u : List ℕ) → Slots w (xs ++ (a ∷ [])) → length xs < n → DistinctKeys (map (slot_key o k) (xs ++ (a ∷ [])))
      → Inserted w o k n (length xs) (row w n (xs ++ (a ∷ [])) ++ order_bytes n (order (map (slot_key o k) xs))) u
      → u ≡ row w n (xs ++ (a ∷ [])) ++ order_bytes n (order (map (slot_key o k) (xs ++ (a ∷ []))))
  part_inserted a u each h d g =
      let new = xs ++ (a ∷ []) in
      let key = slot_key o k in
      let t = order_bytes n (order (map key xs)) in
      let s = row w n new in
      let l : length new ≡ suc (length xs) = length-append xs (a ∷ []) ∙ (omega arith) in
      let few : length new ≤ n = omega arith in
      let sl : length s ≡ n * w = row_long w o k n new inside each few t in
      let tl : length t ≡ n = pad_length 0 n (map suc (order (map key xs))) in
      let m : length (map key xs) ≡ length xs = length-map xs key in
      let old : order_of (key_at w o k (s ++ t)) (length xs) ≡ order (map key xs)
      = order_of_same (key_at w o k (s ++ t)) (key_in (map key xs)) (length xs)
      (λ p x. part_key_is w o k n new inside each few t p (omega arith) ∙ ap (λ (y : List (List ℕ)). key_in y p) (map-append key xs (a ∷ [])) ∙ get_or-append (map key xs) (key a ∷ []) [] p (omega arith))
      ∙ ap (order_of (key_in (map key xs))) (sym m) in
      let all : order_of (key_at w o k (s ++ t)) (suc (length xs)) ≡ order (map key new) = ap (order_of (key_at w o k (s ++ t))) (sym l) ∙ part_order w o k n new inside each few t in
      let dis : DistinctTo (key_at w o k (s ++ t)) (suc (length xs)) = subst (DistinctTo (key_at w o k (s ++ t))) l (part_distinct w o k n new inside each few t d) in
      g (part_shaped w o k n new inside each few t wide tl small) h dis (drop_at s t (n * w) sl ∙ ap (order_bytes n) (sym old))
      ∙ ap₂ (λ (x y : List ℕ). x ++ y) (take_at s t (n * w) sl) (ap (order_bytes n) all)

-- slot p was taken out, and the old order stands behind any n * w bytes: the new one comes there
pub part_dropped : {A : Type 0} (w n : ℕ) (key : A → List ℕ) (ls : List A) (p : ℕ) (s u : List ℕ) → length s ≡ n * w → n ≤ 255 → length ls ≤ n → p < length ls → DistinctKeys (map key ls) → Dropped n p (s ++ order_bytes n (order (map key ls))) u
    → u ≡ s ++ order_bytes n (order (map key (take p ls ++ drop (suc p) ls)))
part_dropped w n key ls p s u sl small few h d g = go (length ls - 1) (omega arith)
  where
    go : (count : ℕ) → length ls ≡ suc count → u ≡ s ++ order_bytes n (order (map key (take p ls ++ drop (suc p) ls)))
    go count e =
        let keys = map key ls in
        let t = order_bytes n (order keys) in
        let m : length keys ≡ suc count = length-map ls key ∙ e in
        let tl : length t ≡ n = pad_length 0 n (map suc (order keys)) in
        g w count (key_in keys) (length-append s t ∙ ap₂ (λ (a b : ℕ). a + b) sl tl) small (omega arith) (omega arith) (λ x y i j q. d x y (omega arith) (omega arith) q) (drop_at s t (n * w) sl ∙ ap (λ (i : ℕ). order_bytes n (order_of (key_in keys) i)) m)
        ∙ ap₂ (λ (x y : List ℕ). x ++ order_bytes n y) (take_at s t (n * w) sl) (sym (ap order (map_gone key ls p) ∙ order_gone keys p count m (omega arith)))
