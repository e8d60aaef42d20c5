-- Digits written as units at the start of the scratch, from the last or from the first on. Assumes nothing.
use Rattle.std.specs.Prelude.{Option}
use Rattle.lists.proofs.Kit.{ℕ, zero, suc, ◌+◌, ◌*◌, ◌-◌, ◌/◌, ◌%◌, ◌≤◌, ◌<◌, ◌≡◌, refl, sym, ap, ap₂, ◌∙◌, subst, ◌≢◌, Bool, true, false, List, [], ◌∷◌, ◌++◌, map, map-append, append_assoc, append-nil, not-suc-le-zero, le_of_suc-le-suc, add-one, arith, lt-ltb, le-ltb, ltb-true, ltb, length, take, drop, get_or, set, length-map, take-append-drop, sets-eq, take_at, drop_at, take-suc, take_all, take-append-le, drop-drop, length-take-le, take-take}
use Rattle.lists.proofs.Every.{all_get, all_made}
use Rattle.plan.specs.declared.numbers.DialledNumber.{DialledNumber}
use Rattle.slots.specs.Slots.{flat, pad, u16}
use Rattle.slots.proofs.Parts.{flat_append, slots_length}
use Rattle.writing.specs.Ranges.{InNumber}
use Rattle.writing.specs.Settings.{Text, Number}
use Rattle.tables.specs.Layout.{digit_bytes}
use Rattle.screen.specs.Rows.{ascii, digits, unit_bytes}
use Rattle.screen.specs.Steps.{Written, dialled_digits}

-- ---- units

-- a digit's code is a byte
pub ascii_byte : (d : ℕ) → d < 16 → ascii d < 256
ascii_byte d h = go (ltb d 10) refl
  where
    go : (b : Bool) → ltb d 10 ≡ b → ascii d < 256
    go true e = rw e (omega (arith, ltb-true d 10 e))
    go false e = rw e (omega arith)

-- a digit below 10
pub ascii_low : (d : ℕ) → d < 10 → 48 + d ≡ ascii d
ascii_low d h = rw (lt-ltb d 10 h)

-- and one above
pub ascii_high : (d : ℕ) → 10 ≤ d → 55 + d ≡ ascii d
ascii_high d h = rw (le-ltb d 10 h)

-- its unit is a zero byte and the code
pub digit_unit : (d : ℕ) → d < 16 → u16 (ascii d) ≡ 0 ∷ ascii d ∷ []
digit_unit d h =
    let b = ascii_byte d h in
    let p : ascii d / 256 ≡ 0 = omega arith in
    let q : ascii d % 256 ≡ ascii d = omega arith in
    ap₂ (λ (x y : ℕ). x ∷ y ∷ []) p q

-- two bytes a unit
pub unit_length : (us : Text) → length (unit_bytes us) ≡ 2 * length us
unit_length us = omega (arith, slots_length 2 (map u16 us) (all_made (λ x. length x ≡ 2) u16 (λ u. refl) us), length-map us u16)

-- units after units
pub unit_append : (us vs : Text) → unit_bytes (us ++ vs) ≡ unit_bytes us ++ unit_bytes vs
unit_append us vs = ap flat (map-append u16 us vs) ∙ flat_append (map u16 us) (map u16 vs)

-- a digit is put as a unit
pub digit_put : (s : List ℕ) (i high low digit code : ℕ) → high ≡ 2 * i → low ≡ high + 1 → 2 * i + 2 ≤ length s → code ≡ ascii digit
    → set (set s high 0) low code ≡ take (2 * i) s ++ (0 ∷ ascii digit ∷ drop (2 * i + 2) s)
digit_put s i high low digit code p q h e = rw (q, p, e, add-one (2 * i)) (sets-eq (0 ∷ ascii digit ∷ []) s (2 * i) h ∙ append_assoc (take (2 * i) s) (0 ∷ ascii digit ∷ []) (drop (2 * i + 2) s))

-- ---- from the last digit on

-- the digits of x from place `left` on are written, and `rest` is what is left of x
pub record DigitsLeft (s : List ℕ) (x base n : ℕ) (t : List ℕ) (left rest : ℕ) : Type 0 where
  pub fits : left ≤ n
  pub done : List ℕ
  pub all : digits base n x ≡ digits base left rest ++ done
  pub many : left + length done ≡ n
  pub bytes : t ≡ take (2 * left) s ++ (unit_bytes (map ascii done) ++ drop (2 * n) s)

module _ (s : List ℕ) (x base n : ℕ) where
  pub left_start : DigitsLeft s x base n s n x
  left_start = record { fits = omega arith; done = []; all = sym (append-nil (digits base n x)); many = omega arith; bytes = sym (take-append-drop (2 * n) s) }

  module _ (t : List ℕ) (left rest : ℕ) (l : DigitsLeft s x base n t left rest) where
    -- the next digit is written before them
    pub left_more : (u : List ℕ) (k d : ℕ) → 2 * n ≤ length s → left ≡ suc k → d ≡ rest % base → d < 16
        → u ≡ take (2 * k) t ++ (0 ∷ ascii d ∷ drop (2 * k + 2) t) → DigitsLeft s x base n u k (rest / base)
    left_more u k d h e f small b =
        let w : List ℕ = unit_bytes (map ascii l.done) ++ drop (2 * n) s in
        let j : left ≤ n = l.fits in
        let a : length (take (2 * left) s) ≡ 2 * left = length-take-le (2 * left) s (omega arith) in
        let p : take (2 * k) t ≡ take (2 * k) s
        = ap (take (2 * k)) l.bytes ∙ take-append-le (2 * k) (take (2 * left) s) w (omega arith) ∙ take-take (2 * k) (2 * left) s (omega arith) in
        let q : drop (2 * k + 2) t ≡ w = ap (drop (2 * k + 2)) l.bytes ∙ drop_at (take (2 * left) s) w (2 * k + 2) (omega arith) in
        let c : digits base left rest ≡ digits base k (rest / base) ++ (rest % base ∷ []) = ap (λ i. digits base i rest) e in
        record {
          fits = omega arith;
          done = d ∷ l.done;
          all = l.all ∙ ap (λ y. y ++ l.done) c ∙ append_assoc (digits base k (rest / base)) (rest % base ∷ []) l.done ∙ ap (λ i. digits base k (rest / base) ++ (i ∷ l.done)) (sym f);
          many = omega (arith, l.many);
          bytes = b ∙ ap₂ (λ y z. y ++ (0 ∷ ascii d ∷ z)) p q ∙ ap (λ y. take (2 * k) s ++ (y ++ w)) (sym (digit_unit d small));
        }

    -- all are written
    pub left_end : left ≡ 0 → 2 * n ≤ length s → Written (map ascii (digits base n x)) s t (2 * n)
    left_end e h =
        let a : digits base n x ≡ l.done = l.all ∙ ap (λ i. digits base i rest ++ l.done) e in
        let m : length (map ascii (digits base n x)) ≡ n = length-map (digits base n x) ascii ∙ ap length a ∙ omega (arith, l.many) in
        record {
          bytes = l.bytes ∙ ap (λ i. take (2 * i) s ++ (unit_bytes (map ascii l.done) ++ drop (2 * n) s)) e ∙ ap₂ (λ y i. unit_bytes (map ascii y) ++ drop (2 * i) s) (sym a) (sym m);
          many = ap (λ i. 2 * i) (sym m);
        }

-- ---- from the first digit on

-- the byte that keeps digit i
kept_digit : (n : ℕ) (ds : Number) (i : ℕ) → i < n → i < length ds → get_or (pad 0 n (map suc ds)) i 0 ≡ suc (get_or ds i 0)
kept_digit zero ds i h l = absurd (not-suc-le-zero h)
kept_digit (suc n) [] i h l = absurd (not-suc-le-zero l)
kept_digit (suc n) (d ∷ ds) zero h l = refl
kept_digit (suc n) (d ∷ ds) (suc i) h l = kept_digit n ds i (le_of_suc-le-suc h) (le_of_suc-le-suc l)

-- past the last digit it is 0
kept_past : (n : ℕ) (ds : Number) (i : ℕ) → length ds ≤ i → get_or (pad 0 n (map suc ds)) i 0 ≡ 0
kept_past zero ds i l = refl
kept_past (suc n) [] zero l = refl
kept_past (suc n) [] (suc i) l = kept_past n [] i (omega arith)
kept_past (suc n) (d ∷ ds) zero l = absurd (not-suc-le-zero l)
kept_past (suc n) (d ∷ ds) (suc i) l = kept_past n ds i (le_of_suc-le-suc l)

-- the first i digits are written
pub record DigitsSoFar (kept s t : List ℕ) (i : ℕ) (ds : Number) : Type 0 where
  pub within : i ≤ length ds
  pub bytes : t ≡ unit_bytes (map ascii (take i ds)) ++ drop (2 * i) s

module _ (kept s : List ℕ) (ds : Number) (ok : InNumber ds) (e : kept ≡ digit_bytes ds) where
  pub so_far_start : DigitsSoFar kept s s 0 ds
  so_far_start = record { within = omega arith; bytes = refl }

  -- what is kept at i, below 18, is a digit or the end
  pub kept_here : (i : ℕ) → i < 18 → i < length ds → get_or kept i 0 ≡ suc (get_or ds i 0)
  kept_here i h l = ap (λ k. get_or k i 0) e ∙ kept_digit 18 ds i h l

  -- there is a digit where what is kept is not 0
  pub more_digits : (i k : ℕ) → i < 18 → k ≡ get_or kept i 0 → k ≢ 0 → i < length ds
  more_digits i k h f n = omega (arith, no_past)
    where
      no_past : length ds ≤ i → ⊥
      no_past z = n (f ∙ ap (λ l. get_or l i 0) e ∙ kept_past 18 ds i z)

  -- it is a decimal one
  pub kept_small : (i k : ℕ) → i < 18 → k ≡ get_or kept i 0 → k ≤ 10
  kept_small i k h f = omega (arith, no_more)
    where
      no_more : 10 < k → ⊥
      no_more z = let l = more_digits i k h f (λ y. omega arith) in omega (arith, kept_here i h l, all_get (◌≤ 9) ds i 0 ok.2 l)

  module _ (t : List ℕ) (i : ℕ) (h : i ≤ 18) (g : DigitsSoFar kept s t i ds) where
    -- so many bytes
    so_long : length (unit_bytes (map ascii (take i ds))) ≡ 2 * i
    so_long = omega (arith, unit_length (map ascii (take i ds)), length-map (take i ds) ascii, length-take-le i ds g.within)

    -- one digit more
    pub so_far_more : (u : List ℕ) (k : ℕ) → i < 18 → k ≡ get_or kept i 0 → k ≢ 0
        → u ≡ take (2 * i) t ++ (0 ∷ ascii (k - 1) ∷ drop (2 * i + 2) t) → DigitsSoFar kept s u (i + 1) ds
    so_far_more u k l f n b =
        let m : i < length ds = more_digits i k l f n in
        let d : k - 1 ≡ get_or ds i 0 = omega (arith, kept_here i l m) in
        let a : List ℕ = unit_bytes (map ascii (take i ds)) in
        let p : take (2 * i) t ≡ a = ap (take (2 * i)) g.bytes ∙ take_at a (drop (2 * i) s) (2 * i) so_long in
        let q : drop (2 * i + 2) t ≡ drop (2 * i + 2) s
        = sym (drop-drop 2 (2 * i) t) ∙ ap (λ y. drop 2 (drop (2 * i) y)) g.bytes ∙ ap (drop 2) (drop_at a (drop (2 * i) s) (2 * i) so_long) ∙ drop-drop 2 (2 * i) s in
        let v : map ascii (take (i + 1) ds) ≡ map ascii (take i ds) ++ (ascii (k - 1) ∷ [])
        = ap (λ j. map ascii (take j ds)) (add-one i) ∙ ap (map ascii) (take-suc ds i 0 m) ∙ map-append ascii (take i ds) (get_or ds i 0 ∷ []) ∙ ap (λ j. map ascii (take i ds) ++ (ascii j ∷ [])) (sym d) in
        let w : 2 * i + 2 ≡ 2 * (i + 1) = omega arith in
        let small : k - 1 < 16 = omega (arith, kept_small i k l f) in
        record {
          within = omega arith;
          bytes =
              b ∙ ap₂ (λ y z. y ++ (0 ∷ ascii (k - 1) ∷ z)) p q
              ∙ ap (λ y. a ++ (y ++ drop (2 * i + 2) s)) (sym (digit_unit (k - 1) small))
              ∙ sym (append_assoc a (u16 (ascii (k - 1))) (drop (2 * i + 2) s))
              ∙ ap₂ (λ y j. y ++ drop j s) (sym (unit_append (map ascii (take i ds)) (ascii (k - 1) ∷ []))) w
              ∙ ap (λ y. unit_bytes y ++ drop (2 * (i + 1)) s) (sym v);
        }

    -- all are written
    pub so_far_end : length ds ≤ i → Written (map ascii ds) s t (2 * i)
    so_far_end l =
        let n : length ds ≡ i = omega (arith, g.within) in
        let m : length (map ascii ds) ≡ i = length-map ds ascii ∙ n in
        record {
          bytes = g.bytes ∙ ap₂ (λ y j. unit_bytes (map ascii y) ++ drop (2 * j) s) (take_all i ds l) (sym m);
          many = ap (λ j. 2 * j) (sym m);
        }

    -- the end was met
    pub so_far_stop : (k : ℕ) → i < 18 → k ≡ get_or kept i 0 → k ≡ 0 → Written (map ascii ds) s t (2 * i)
    so_far_stop k l f z = so_far_end (omega (arith, no_digit))
      where
        no_digit : i < length ds → ⊥
        no_digit y = omega (arith, kept_here i l y)

-- ---- an address

-- the answer of the plan by its case
pub dialled_as : {a b : Option DialledNumber} (x : ℕ) (s t : List ℕ) (r : ℕ) → a ≡ b → Written (map ascii (dialled_digits b x)) s t r → Written (map ascii (dialled_digits a x)) s t r
dialled_as x s t r e w = subst (λ (d : Option DialledNumber). Written (map ascii (dialled_digits d x)) s t r) (sym e) w
