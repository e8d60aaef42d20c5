-- Units of two bytes of which none is 0, looked at one by one and by blocks, and an area that they fill. Assumes nothing.
use Rattle.lists.proofs.Kit.{ℕ, zero, suc, ◌+◌, ◌-◌, ◌*◌, ◌/◌, ◌≤◌, ◌<◌, ◌≡◌, refl, sym, ap, ◌∙◌, subst, Bool, true, false, not, ◌&&◌, true≢false, false≢true, ◌↔◌, ◌≢◌, List, [], ◌∷◌, ◌++◌, append_assoc, ◌%◌, arith, eqb, ne_eqb, add-one, mid_of, length, take, drop, get_or, length-append, length-drop, drop-drop, drop-cons, take_at, drop_at}
use Rattle.lists.specs.Every.{All}
use Rattle.lists.proofs.Bools.{and_parts}
use Rattle.slots.specs.Slots.{zeros?}
use Rattle.slots.proofs.Runs.{still_more, still_all}
use Rattle.tables.specs.Texts.{front_units, AreaFilled}
use Rattle.tables.proofs.AnswerLaws.{not_said, was_said}
use Rattle.store_check.specs.Checks.{shown?, units?}
use Rattle.store_check.proofs.CheckLaws.{rest_is}

-- ---- one unit

-- a high byte of 0 leaves it to the low byte
pub shown_low : (b : Bool) (x y : ℕ) → b ≡ true → x ≡ 0 → not (eqb y 0) ≡ (b && shown? x y)
shown_low false x y t e = absurd (false≢true t)
shown_low true x y t e = ap (λ (b : Bool). not b) (sym (still_all (eqb y 0))) ∙ ap (λ (z : ℕ). not (eqb z 0 && (eqb y 0 && true))) (sym e)

-- another decides
pub shown_high : (b : Bool) (x y : ℕ) → b ≡ true → x ≢ 0 → true ≡ (b && shown? x y)
shown_high false x y t n = absurd (false≢true t)
shown_high true x y t n = ap (λ (b : Bool). not (b && (eqb y 0 && true))) (sym (ne_eqb x 0 n))

-- a unit is not 0 where not both bytes are
shown_is : (x y : ℕ) → (shown? x y ≡ true) ↔ (x * 256 + y ≢ 0)
shown_is x y = (to x y, from x y)
  where
    to : (x y : ℕ) → shown? x y ≡ true → x * 256 + y ≢ 0
    to zero zero s e = false≢true s
    to zero (suc y) s e = omega arith
    to (suc x) y s e = omega arith

    from : (x y : ℕ) → x * 256 + y ≢ 0 → shown? x y ≡ true
    from zero zero n = absurd (n refl)
    from zero (suc y) n = sym (shown_low true 0 (suc y) refl refl) ∙ ap not (ne_eqb (suc y) 0 (λ e. omega arith))
    from (suc x) y n = sym (shown_high true (suc x) y refl (λ e. omega arith))

-- ---- one by one

-- two bytes, and those behind them
two_first : (s : List ℕ) (i : ℕ) → i + 1 < length s → drop i s ≡ get_or s i 0 ∷ get_or s (i + 1) 0 ∷ drop (i + 2) s
two_first s i h =
    let e : suc i ≡ i + 1 = sym (add-one i) in
    let f : suc (i + 1) ≡ i + 2 = omega arith in
    drop-cons s i 0 (omega arith) ∙ ap (λ (l : List ℕ). get_or s i 0 ∷ l) (ap (λ (j : ℕ). drop j s) e ∙ drop-cons s (i + 1) 0 h ∙ ap (λ (j : ℕ). get_or s (i + 1) 0 ∷ drop j s) f)

-- UNITS-MORE: what is left to ask after one more
pub units_more : (s : List ℕ) (i : ℕ) (all b : Bool) → i < length s / 2 → units? s ≡ (all && units? (drop (2 * i) s)) → b ≡ (all && shown? (get_or s (2 * i) 0) (get_or s (2 * i + 1) 0)) → units? s ≡ (b && units? (drop (2 * (i + 1)) s))
units_more s i all b h q e =
    let j : 2 * i + 2 ≡ 2 * (i + 1) = omega arith in
    let f : drop (2 * i) s ≡ get_or s (2 * i) 0 ∷ get_or s (2 * i + 1) 0 ∷ drop (2 * (i + 1)) s
    = two_first s (2 * i) (omega arith) ∙ ap (λ (k : ℕ). get_or s (2 * i) 0 ∷ get_or s (2 * i + 1) 0 ∷ drop k s) j in
    q ∙ ap (λ (l : List ℕ). all && units? l) f ∙ still_more all (shown? (get_or s (2 * i) 0) (get_or s (2 * i + 1) 0)) (units? (drop (2 * (i + 1)) s)) ∙ ap (λ (c : Bool). c && units? (drop (2 * (i + 1)) s)) (sym e)

-- a byte alone is no unit
units_none : (s : List ℕ) → length s ≤ 1 → units? s ≡ true
units_none [] h = refl
units_none (x ∷ []) h = refl
units_none (x ∷ y ∷ s) h = absurd (omega arith)

-- UNITS-DONE: and nothing where none is left
pub units_done : (s : List ℕ) (i : ℕ) (all : Bool) → length s / 2 ≤ i → units? s ≡ (all && units? (drop (2 * i) s)) → all ≡ units? s
units_done s i all h q = sym (q ∙ ap (λ (b : Bool). all && b) (units_none (drop (2 * i) s) (omega (arith, length-drop (2 * i) s))) ∙ still_all all)

-- ---- by blocks

-- units in front, and those behind them
units_split : (k : ℕ) (s : List ℕ) → units? s ≡ (units? (take (k * 2) s) && units? (drop (k * 2) s))
units_split zero s = refl
units_split (suc k) s =
    let e : suc (suc (k * 2)) ≡ suc k * 2 = omega arith in
    subst (λ (i : ℕ). units? s ≡ (units? (take i s) && units? (drop i s))) e (go (units_split k) s)
  where
    go : ((s : List ℕ) → units? s ≡ (units? (take (k * 2) s) && units? (drop (k * 2) s))) → (s : List ℕ) → units? s ≡ (units? (take (suc (suc (k * 2))) s) && units? (drop (suc (suc (k * 2))) s))
    go r [] = refl
    go r (x ∷ []) = refl
    go r (x ∷ y ∷ s) = ap (λ (b : Bool). shown? x y && b) (r s) ∙ still_more (shown? x y) (units? (take (k * 2) s)) (units? (drop (k * 2) s))

-- r is what is left of s behind blocks of 32 bytes, and decides for it
abbrev pub Behind : List ℕ → List ℕ → Type 0
Behind s r = ((p : List ℕ) × (m : ℕ) × (s ≡ p ++ r) × (length p ≡ m * 32)) × (units? s ≡ units? r)

module _ (s r x r' : List ℕ) (k : r ≡ x ++ r') (l : length x ≡ 32) (q : Behind s r) where
  block_split : units? s ≡ (units? x && units? r')
  block_split =
      q.1 ∙ units_split 16 r ∙ ap (λ (y : List ℕ). units? (take 32 r) && units? y) (ap (drop 32) k ∙ drop_at x r' 32 l)
      ∙ ap (λ (y : List ℕ). units? y && units? r') (ap (take 32) k ∙ take_at x r' 32 l)

  -- BLOCK-MORE: one in which none is 0 is passed
  pub block_more : (b : Bool) → b ≡ units? x → b ≡ true → Behind s r'
  block_more b e y =
      let p = q.0.0 in
      let m = q.0.1 in (
        (p ++ x, m + 1, q.0.2 ∙ ap (λ (z : List ℕ). p ++ z) k ∙ sym (append_assoc p x r'), omega (arith, length-append p x, l, q.0.3)),
        block_split ∙ ap (λ (c : Bool). c && units? r') (sym e ∙ y),
      )

  -- BLOCK-STOP: another ends it
  pub block_stop : (b : Bool) → b ≡ units? x → b ≡ false → false ≡ units? s
  block_stop b e y = sym (block_split ∙ ap (λ (c : Bool). c && units? r') (sym e ∙ y))

-- BLOCK-END: those behind the last block decide
pub block_end : (s r z : List ℕ) → Behind s r → length r < 32 → z ≡ drop (length s - length s % 32) s → (b : Bool) → b ≡ units? z → b ≡ units? s
block_end s r z q h k b e =
    let p = q.0.0 in
    let i : length s - length s % 32 ≡ length p = omega (arith, ap length q.0.2 ∙ length-append p r, q.0.3, h) in
    e ∙ ap units? (k ∙ ap (λ (n : ℕ). drop n s) i ∙ ap (drop (length p)) q.0.2 ∙ drop_at p r (length p) refl) ∙ sym q.1

-- ---- an area

-- units of which none is 0
front_shown : (n : ℕ) (s : List ℕ) → n * 2 ≤ length s → (units? (take (n * 2) s) ≡ true) ↔ All (λ u. u ≢ 0) (front_units n s)
front_shown zero s h = (λ e. tt, λ p. refl)
front_shown (suc n) [] h = absurd (omega arith)
front_shown (suc n) (x ∷ []) h = absurd (omega arith)
front_shown (suc n) (x ∷ y ∷ s) h =
    let r = front_shown n s (omega arith) in
    let k : units? (take (suc n * 2) (x ∷ y ∷ s)) ≡ (shown? x y && units? (take (n * 2) s)) = ap (λ (i : ℕ). units? (take i (x ∷ y ∷ s))) (twice n) in (
      λ e. let p = and_parts (shown? x y) (units? (take (n * 2) s)) (sym k ∙ e) in ((shown_is x y).0 p.0, r.0 p.1),
      λ p. k ∙ ap (λ (b : Bool). b && units? (take (n * 2) s)) ((shown_is x y).1 p.0) ∙ r.1 p.1,
    )
  where
    twice : (n : ℕ) → suc n * 2 ≡ suc (suc (n * 2))
    twice n = omega arith

-- AREA-SHORT: an area without room for them is not filled with them
pub area_short : (n : ℕ) (s : List ℕ) → length s / 2 < n → AreaFilled n s → ⊥
area_short n s h f = omega (arith, f.room)

module _ (n : ℕ) (s : List ℕ) (room : n ≤ length s / 2) (a : Bool) (e : a ≡ units? (mid_of 0 (n * 2 - 0) s)) where
  -- the units, as they are read
  units_read : (a ≡ true) ↔ All (λ u. u ≢ 0) (front_units n s)
  units_read =
      let i : n * 2 - 0 ≡ n * 2 = omega arith in
      let k : a ≡ units? (take (n * 2) s) = e ∙ ap (λ (j : ℕ). units? (take j s)) i in
      let f = front_shown n s (omega arith) in
      (λ y. f.0 (sym k ∙ y), λ p. k ∙ f.1 p)

  -- AREA-GAP: one of which a unit is 0 is not
  pub area_gap : not a ≡ true → AreaFilled n s → ⊥
  area_gap y f = not_said a units_read y f.units

  -- AREA-TOLD: else the bytes behind the units decide
  pub area_told : not a ≡ false → (b : Bool) → b ≡ zeros? (mid_of (n * 2) (length s - n * 2) s) → (b ≡ true) ↔ AreaFilled n s
  area_told y b z =
      let i : n * 2 ≡ 2 * n = omega arith in
      let k : b ≡ zeros? (drop (2 * n) s) = z ∙ ap zeros? (rest_is s (n * 2) (length s - n * 2) (omega arith)) ∙ ap (λ (j : ℕ). zeros? (drop j s)) i in
      (λ t. record { room = omega arith; units = was_said a units_read y; rest = sym k ∙ t }, λ f. k ∙ f.rest)
