-- Parts of bytes: one is read, or comes back changed, and the others stand. Assumes nothing.
use Rattle.lists.proofs.Kit.{◌≡◌, refl, sym, ap, ap₂, ◌∙◌, List, [], ◌∷◌, ◌++◌, map, append_assoc, nil≢cons, cons≢nil, head-eq_of_cons-eq, tail-eq_of_cons-eq, ℕ, zero, suc, ◌+◌, ◌*◌, ◌<◌, zero-mul, suc-mul, zero-add, suc-add, arith, put_mid, mid_of, length, set, drop, take, get_or, replicate, take-nil, drop-drop, length-append, replicate-append-replicate, take_at, drop_at, split_at, set_split}
use Rattle.lists.specs.Bytes.{Bytes}
use Rattle.lists.proofs.Bytes.{bytes_append, bytes_zeros}
use Rattle.lists.specs.Every.{All}
use Rattle.lists.proofs.Seqs.{cut}
use Rattle.slots.specs.Slots.{flat, sum, Slots}

-- the part between pre and post becomes ys
pub put_part : (pre mid post ys : List ℕ) (a k : ℕ) → length pre ≡ a → length mid ≡ k → put_mid a k (pre ++ (mid ++ post)) ys ≡ pre ++ (ys ++ post)
put_part pre mid post ys a k p q = rw (take_at pre (mid ++ post) a p, drop_at pre (mid ++ post) a p, drop_at mid post k q)

-- the part between pre and post is read
pub get_part : (pre mid post : List ℕ) (a k : ℕ) → length pre ≡ a → length mid ≡ k → mid_of a k (pre ++ (mid ++ post)) ≡ mid
get_part pre mid post a k p q = rw (drop_at pre (mid ++ post) a p, take_at mid post k q)

-- the same bytes, with the first k left out before or after
behind : (k n : ℕ) (l : List ℕ) → take n (drop k l) ≡ drop k (take (k + n) l)
behind zero n l = ap (λ (i : ℕ). take i l) (sym (zero-add n))
behind (suc k) n [] = take-nil n ∙ sym (ap (drop (suc k)) (take-nil (suc k + n)))
behind (suc k) n (x ∷ l) = behind k n l ∙ ap (λ (i : ℕ). drop (suc k) (take i (x ∷ l))) (sym (suc-add k n))

-- what stands behind the first k bytes of a part
pub get_behind : (k a n : ℕ) (s : List ℕ) → mid_of (a + k) n s ≡ drop k (mid_of a (k + n) s)
get_behind k a n s = ap (take n) (sym (drop-drop k a s)) ∙ behind k n (drop a s)

-- slots after slots are bytes after bytes
pub flat_append : (xs ys : List (List ℕ)) → flat (xs ++ ys) ≡ flat xs ++ flat ys
flat_append [] ys = refl
flat_append (x ∷ xs) ys = ap (λ (l : List ℕ). x ++ l) (flat_append xs ys) ∙ sym (append_assoc x (flat xs) (flat ys))

-- slots of bytes are bytes
pub flat_bytes : (xs : List (List ℕ)) → All Bytes xs → Bytes (flat xs)
flat_bytes [] p = bytes_zeros 0
flat_bytes (x ∷ xs) p = bytes_append x (flat xs) p.0 (flat_bytes xs p.1)

-- n slots of w bytes are n * w bytes
pub slots_length : (w : ℕ) (xs : List (List ℕ)) → Slots w xs → length (flat xs) ≡ length xs * w
slots_length w [] q = sym (zero-mul w)
slots_length w (x ∷ xs) q = omega (arith, length-append x (flat xs), slots_length w xs q.1, q.0, suc-mul (length xs) w)

-- ---- parts of given widths

-- all parts together
pub flat_length : (xs : List (List ℕ)) → length (flat xs) ≡ sum (map length xs)
flat_length [] = refl
flat_length (x ∷ xs) = length-append x (flat xs) ∙ ap (λ (n : ℕ). length x + n) (flat_length xs)

-- parts of zeros are zeros
pub flat_zeros : (ws : List ℕ) → flat (map (λ w. replicate w 0) ws) ≡ replicate (sum ws) 0
flat_zeros [] = refl
flat_zeros (w ∷ ws) = ap (λ (l : List ℕ). replicate w 0 ++ l) (flat_zeros ws) ∙ replicate-append-replicate w (sum ws) 0

-- the widths of the first k parts
flat_take : (xs : List (List ℕ)) (k : ℕ) → length (flat (take k xs)) ≡ sum (take k (map length xs))
flat_take xs zero = refl
flat_take [] (suc k) = refl
flat_take (x ∷ xs) (suc k) = length-append x (flat (take k xs)) ∙ ap (λ (n : ℕ). length x + n) (flat_take xs k)

-- the width of part k
pub get_d_length : (xs : List (List ℕ)) (k : ℕ) → length (get_or xs k []) ≡ get_or (map length xs) k 0
get_d_length [] k = refl
get_d_length (x ∷ xs) zero = refl
get_d_length (x ∷ xs) (suc k) = get_d_length xs k

module _ (xs : List (List ℕ)) (ws : List ℕ) (e : map length xs ≡ ws) (k : ℕ) (h : k < length xs) where
  -- what stands before part k, the part, and what stands after it
  split : flat xs ≡ flat (take k xs) ++ (get_or xs k [] ++ flat (drop (suc k) xs))
  split = ap flat (split_at xs k [] h) ∙ flat_append (take k xs) (get_or xs k [] ∷ drop (suc k) xs)

  -- where part k starts
  start : length (flat (take k xs)) ≡ sum (take k ws)
  start = flat_take xs k ∙ ap (λ (l : List ℕ). sum (take k l)) e

  -- how wide it is
  wide : length (get_or xs k []) ≡ get_or ws k 0
  wide = get_d_length xs k ∙ ap (λ (l : List ℕ). get_or l k 0) e

  -- part k is read
  pub parts_get : mid_of (sum (take k ws)) (get_or ws k 0) (flat xs) ≡ get_or xs k []
  parts_get = ap (mid_of (sum (take k ws)) (get_or ws k 0)) split ∙ get_part (flat (take k xs)) (get_or xs k []) (flat (drop (suc k) xs)) (sum (take k ws)) (get_or ws k 0) start wide

  -- part k comes back as y
  pub parts_put : (y : List ℕ) → put_mid (sum (take k ws)) (get_or ws k 0) (flat xs) y ≡ flat (set xs k y)
  parts_put y =
      ap (λ (l : List ℕ). put_mid (sum (take k ws)) (get_or ws k 0) l y) split
      ∙ put_part (flat (take k xs)) (get_or xs k []) (flat (drop (suc k) xs)) y (sum (take k ws)) (get_or ws k 0) start wide
      ∙ sym (ap flat (set_split xs k y h) ∙ flat_append (take k xs) (y ∷ drop (suc k) xs))

-- parts of the same widths that make the same bytes are the same
pub parts_one : (xs ys : List (List ℕ)) → map length xs ≡ map length ys → flat xs ≡ flat ys → xs ≡ ys
parts_one [] [] s e = refl
parts_one [] (y ∷ ys) s e = absurd (nil≢cons s)
parts_one (x ∷ xs) [] s e = absurd (cons≢nil s)
parts_one (x ∷ xs) (y ∷ ys) s e =
    let r = cut x y (head-eq_of_cons-eq s) e in
    ap₂ (λ x y. x ∷ y) r.0 (parts_one xs ys (tail-eq_of_cons-eq s) r.1)
