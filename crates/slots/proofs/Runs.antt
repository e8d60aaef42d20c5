-- Laws of bytes: what a loop over them has done so far, and what zero and equal bytes are. Assumes nothing.
use Rattle.lists.proofs.Kit.{◌≡◌, refl, sym, ap, ap₂, ◌∙◌, Bool, true, false, ◌&&◌, false≢true, List, [], ◌∷◌, ◌++◌, append-nil, ℕ, zero, suc, ◌+◌, ◌-◌, ◌≤◌, ◌<◌, min, not-suc-le-zero, le_of_suc-le-suc, add-one, arith, eqb-true, eq-eqb, ltb-true, ltb-false, put_mid, mid_of, post_of, eqb, ltb, length, set, drop, take, get_or, replicate, length-append, length-drop, length-take, drop_of_length-le, take-append-drop, drop-cons, drop-nil, take_all, take_at, length-take-le}
use Rattle.lists.proofs.Bools.{is_false, and_parts}
use Rattle.slots.specs.Slots.{pad, zeros?, same?}
use Rattle.slots.proofs.Pads.{pad_is}

-- ---- comparing to the end

-- one byte more is looked at by a loop that looks at all
pub still_more : (so_far b rest : Bool) → (so_far && (b && rest)) ≡ ((so_far && b) && rest)
still_more true b rest = refl
still_more false b rest = refl

-- and after the last byte its answer is what it saw
pub still_all : (so_far : Bool) → (so_far && true) ≡ so_far
still_all true = refl
still_all false = refl

-- ---- copying

-- one byte more is copied, counted from 1
copy_suc : (src dst : List ℕ) (i : ℕ) → i < length src → i < length dst → set (take i src ++ drop i dst) i (get_or src i 0) ≡ take (suc i) src ++ drop (suc i) dst
copy_suc [] dst i h k = absurd (not-suc-le-zero h)
copy_suc (x ∷ xs) [] i h k = absurd (not-suc-le-zero k)
copy_suc (x ∷ xs) (y ∷ ys) zero h k = refl
copy_suc (x ∷ xs) (y ∷ ys) (suc i) h k = ap (λ (l : List ℕ). x ∷ l) (copy_suc xs ys i (le_of_suc-le-suc h) (le_of_suc-le-suc k))

-- one byte more is copied
pub copy_more : (src dst : List ℕ) (i : ℕ) → i < length src → i < length dst → set (take i src ++ drop i dst) i (get_or src i 0) ≡ take (i + 1) src ++ drop (i + 1) dst
copy_more src dst i h k = rw add-one (copy_suc src dst i h k)

-- all that both have is copied
pub copy_done : (src dst : List ℕ) (n : ℕ) → n ≡ min (length dst) (length src) → take n src ++ drop n dst ≡ take (length dst) src ++ drop (length src) dst
copy_done src dst n e = go (ltb (length dst) (length src)) refl
  where
    go : (b : Bool) → ltb (length dst) (length src) ≡ b → take n src ++ drop n dst ≡ take (length dst) src ++ drop (length src) dst
    go true t =
        let l : length dst < length src = ltb-true _ _ t in
        let k : n ≡ length dst = omega arith in
        (rw (k, drop_of_length-le dst {i = length dst} (omega arith), drop_of_length-le dst {i = length src} (omega arith)))
    go false t =
        let l : length src ≤ length dst = ltb-false _ _ t in
        let k : n ≡ length src = omega arith in
        (rw (k, take_all (length src) src (omega arith), take_all (length dst) src l))

-- bytes copied over as many are those bytes
pub copy_whole : (src dst : List ℕ) → length dst ≡ length src → take (length dst) src ++ drop (length src) dst ≡ src
copy_whole src dst l = rw (take_all (length dst) src (omega arith), drop_of_length-le dst {i = length src} (omega arith), append-nil)

-- past what is copied, the old bytes stand
pub get_d_past : (src dst : List ℕ) (i j : ℕ) → i ≤ length src → i ≤ j → get_or (take i src ++ drop i dst) j 0 ≡ get_or dst j 0
get_d_past src dst zero j h k = refl
get_d_past [] dst (suc i) j h k = absurd (not-suc-le-zero h)
get_d_past (x ∷ xs) dst (suc i) zero h k = absurd (not-suc-le-zero k)
get_d_past (x ∷ xs) [] (suc i) (suc j) h k = ap (λ (l : List ℕ). get_or (take i xs ++ l) j 0) (sym (drop-nil i)) ∙ get_d_past xs [] i j (le_of_suc-le-suc h) (le_of_suc-le-suc k)
get_d_past (x ∷ xs) (y ∷ ys) (suc i) (suc j) h k = get_d_past xs ys i j (le_of_suc-le-suc h) (le_of_suc-le-suc k)

-- what of xs fits stands in t up to n, and the rest of t is wiped
wiped_pad : (t u xs : List ℕ) (n m : ℕ) → length t ≡ m → n ≡ min m (length xs) → take n t ≡ take m xs → u ≡ replicate (length (mid_of n (length t - n) t)) 0 → put_mid n (length t - n) t u ≡ pad 0 m xs
wiped_pad t u xs n m l h e v =
    let k : length (mid_of n (length t - n) t) ≡ m - length xs = simp (length-take, length-drop) (omega arith) in
    let z : post_of n (length t - n) t ≡ [] = drop_of_length-le (drop n t) {i = length t - n} (simp length-drop (omega arith)) in
    (rw (e, z, append-nil, v, k) (sym (pad_is 0 m xs)))

-- s was copied over d, and the rest is wiped
pub padded_done : (s d t u : List ℕ) (n : ℕ) → n ≡ min (length d) (length s) → t ≡ take (length d) s ++ drop (length s) d → u ≡ replicate (length (mid_of n (length t - n) t)) 0 → put_mid n (length t - n) t u ≡ pad 0 (length d) s
padded_done s d t u n h e v =
    let a : length (take (length d) s) ≡ n = simp length-take (omega arith) in
    let l : length t ≡ length d = omega (arith, ap length e, length-append (take (length d) s) (drop (length s) d), length-drop (length s) d) in
    wiped_pad t u s n (length d) l h (ap (take n) e ∙ take_at (take (length d) s) (drop (length s) d) n a) v

-- what stands from w on was moved to the front, and the rest is wiped
pub shift_done : (s t u : List ℕ) (w n : ℕ) → n ≡ length s - w → t ≡ take n (drop w s) ++ drop n s → length t ≡ length s → u ≡ replicate (length (mid_of n (length t - n) t)) 0 → put_mid n (length t - n) t u ≡ pad 0 (length s) (drop w s)
shift_done s t u w n h e l v =
    let d : length (drop w s) ≡ length s - w = length-drop w s in
    let a : take n t ≡ take (length s) (drop w s)
    = ap (take n) e ∙ take_at (take n (drop w s)) (drop n s) n (length-take-le n (drop w s) (omega arith)) ∙ take_all n (drop w s) (omega arith) ∙ sym (take_all (length s) (drop w s) (omega arith)) in
    wiped_pad t u (drop w s) n (length s) l (omega arith) a v

-- ---- zeros

-- one byte more is looked at
pub zeros_step : (s : List ℕ) (i : ℕ) → i < length s → zeros? (drop i s) ≡ (eqb (get_or s i 0) 0 && zeros? (drop (i + 1) s))
zeros_step s i h = rw (add-one, drop-cons s i 0)

-- zeros are zeros
pub zeros_all : (n : ℕ) → zeros? (replicate n 0) ≡ true
zeros_all zero = refl
zeros_all (suc n) = zeros_all n

-- bytes that are 0 are as many zeros
pub zeros_are : (s : List ℕ) → zeros? s ≡ true → s ≡ replicate (length s) 0
zeros_are [] z = refl
zeros_are (b ∷ bs) z =
    let a = and_parts (eqb b 0) (zeros? bs) z in
    ap₂ (λ x y. x ∷ y) (eqb-true b 0 a.0) (zeros_are bs a.1)

-- zeros in two runs are zeros in each
pub zeros_append : (a b : List ℕ) → zeros? (a ++ b) ≡ (zeros? a && zeros? b)
zeros_append [] b = refl
zeros_append (x ∷ a) b = go (eqb x 0) (zeros_append a b)
  where
    go : (c : Bool) → zeros? (a ++ b) ≡ (zeros? a && zeros? b) → (c && zeros? (a ++ b)) ≡ ((c && zeros? a) && zeros? b)
    go true e = e
    go false e = refl

-- zeros up to a place and from it on
pub zeros_split : (i : ℕ) (s : List ℕ) → zeros? s ≡ (zeros? (take i s) && zeros? (drop i s))
zeros_split i s = ap zeros? (sym (take-append-drop i s)) ∙ zeros_append (take i s) (drop i s)

-- a part of zeros is zeros
pub zeros_part : (i j : ℕ) (s : List ℕ) → zeros? s ≡ true → zeros? (take j (drop i s)) ≡ true
zeros_part i j s z =
    let a = and_parts (zeros? (take i s)) (zeros? (drop i s)) (sym (zeros_split i s) ∙ z) in
    (and_parts (zeros? (take j (drop i s))) (zeros? (drop j (drop i s))) (sym (zeros_split j (drop i s)) ∙ a.1)).0

-- ---- the same bytes

-- one byte more is compared
pub same_step : (a b : List ℕ) (i : ℕ) → i < length a → i < length b → same? (drop i a) (drop i b) ≡ (eqb (get_or a i 0) (get_or b i 0) && same? (drop (i + 1) a) (drop (i + 1) b))
same_step a b i h k = rw (add-one, drop-cons a i 0, drop-cons b i 0)

-- bytes are the same as themselves
pub same_refl : (a : List ℕ) → same? a a ≡ true
same_refl [] = refl
same_refl (x ∷ a) = rw (eq-eqb x x refl) (same_refl a)

-- bytes that compare as the same are equal
pub same_are : (a b : List ℕ) → same? a b ≡ true → a ≡ b
same_are [] [] e = refl
same_are [] (y ∷ b) e = absurd (false≢true e)
same_are (x ∷ a) [] e = absurd (false≢true e)
same_are (x ∷ a) (y ∷ b) e =
    let p = and_parts (eqb x y) (same? a b) e in
    ap₂ (λ x y. x ∷ y) (eqb-true x y p.0) (same_are a b p.1)

-- bytes that are not equal compare as not the same
pub same_not : (a b : List ℕ) → (a ≡ b → ⊥) → same? a b ≡ false
same_not a b h = is_false (same? a b) (λ e. h (same_are a b e))
