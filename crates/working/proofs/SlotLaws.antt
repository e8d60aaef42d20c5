-- Slots with a text each, gone through one by one. Assumes nothing.
use Rattle.lists.proofs.Kit.{Bool, true, cond, ◌&&◌, eqb, ne_eqb, ℕ, zero, suc, ◌+◌, ◌-◌, ◌*◌, ◌/◌, ◌≤◌, ◌<◌, ◌≡◌, refl, sym, ap, ap₂, ◌∙◌, subst⁻¹, List, [], ◌∷◌, ◌++◌, append_assoc, mul-le-mul_right, suc-mul, arith, put_mid, mid_of, post_of, mid_len, length, take, drop, length-append, length-drop, drop-drop, drop_of_length-le, length-take-le, take_at, get_or, get_or-drop}
use Rattle.slots.specs.Slots.{pad}
use Rattle.shared_texts.specs.Moves.{used_units, slot_units, gathered_heads, gathered_texts, placed_units}
use Rattle.working.specs.Saving.{UnitEnds, TextEnds}

-- as many bytes as there is room for
pub pad_whole : (x : List ℕ) (n : ℕ) → length x ≡ n → pad 0 n x ≡ x
pad_whole [] zero e = refl
pad_whole [] (suc n) e = absurd (omega arith)
pad_whole (a ∷ x) zero e = absurd (omega arith)
pad_whole (a ∷ x) (suc n) e = ap (λ (l : List ℕ). a ∷ l) (pad_whole x n (omega arith))

-- slot i of n ends before they do
pub slot_inside : (i n w : ℕ) → i < n → i * w + w ≤ n * w
slot_inside i n w h = let m : suc i * w ≤ n * w = mul-le-mul_right w h in omega (arith, suc-mul i w)

-- the next slot starts behind it
pub slot_next : (i w : ℕ) → i * w + w ≡ (i + 1) * w
slot_next i w = omega arith

-- bytes put behind what is there
pub put_behind : (s y : List ℕ) (a k : ℕ) → a ≤ length s → length y ≡ k → take (a + k) (put_mid a k s y) ≡ take a s ++ y
put_behind s y a k h l =
    ap (take (a + k)) (sym (append_assoc (take a s) y (post_of a k s)))
    ∙ take_at (take a s ++ y) (post_of a k s) (a + k) (omega (arith, length-append (take a s) y, length-take-le a s h))

-- leave as many as there were
pub put_long : (s y : List ℕ) (a k : ℕ) → length y ≡ k → a + k ≤ length s → length (put_mid a k s y) ≡ length s
put_long s y a k l h = omega (arith, length-append (take a s) (y ++ post_of a k s), length-append y (post_of a k s), length-take-le a s (omega arith), length-drop k (drop a s), length-drop a s)

-- ---- slot i of n, which starts at a place, has own bytes and room for a text

module _ (slots : List ℕ) (own room : ℕ) where
  -- what stands behind it
  behind : (at : ℕ) → drop (own + room) (drop at slots) ≡ drop (at + own + room) slots
  behind at = let k : at + (own + room) ≡ at + own + room = omega arith in drop-drop (own + room) at slots ∙ ap (λ (j : ℕ). drop j slots) k

  -- it stands there
  pub slot_stands : (i n at : ℕ) → i < n → at ≡ i * (own + room) → n * (own + room) ≤ length slots → at + own + room ≤ length slots
  slot_stands i n at h e l = omega (arith, slot_inside i n (own + room) h)

  -- the place of its text has whole units
  pub slot_whole : (at : ℕ) → room ≡ room / 2 * 2 → at + own + room ≤ length slots
      → length (mid_of (at + own) (at + own + room - (at + own)) slots) ≡ length (mid_of (at + own) (at + own + room - (at + own)) slots) / 2 * 2
  slot_whole at e h =
      let b : at + own + room - (at + own) ≡ room = omega arith in
      subst⁻¹ (λ (j : ℕ). j ≡ j / 2 * 2) (mid_len (at + own) (at + own + room) slots h ∙ b) e

  -- what the search for the end of its text says
  pub slot_used : (at r : ℕ) → room ≡ room / 2 * 2 → at + own + room ≤ length slots → TextEnds (mid_of (at + own) (at + own + room - (at + own)) slots) r → (r ≡ 2 * slot_units own room (drop at slots)) × (r ≤ room)
  slot_used at r e h f =
      let b : at + own + room - (at + own) ≡ room = omega arith in
      let l : length (mid_of (at + own) (at + own + room - (at + own)) slots) ≡ room = mid_len (at + own) (at + own + room) slots h ∙ b in (
        f.0 ∙ ap (λ (x : List ℕ). 2 * used_units x) (ap₂ (λ (j : ℕ) (x : List ℕ). take j x) b (sym (drop-drop own at slots))),
        omega (arith, f.1),
      )

  module _ (i n at : ℕ) (h : i < n) where
    -- one slot more
    ahead : n - i ≡ suc (n - (i + 1))
    ahead = omega arith

    -- its head
    pub heads_step : gathered_heads own room (n - i) (drop at slots) ≡ (take own (drop at slots) ++ (slot_units own room (drop at slots) ∷ [])) ++ gathered_heads own room (n - (i + 1)) (drop (at + own + room) slots)
    heads_step = ap (λ (j : ℕ). gathered_heads own room j (drop at slots)) ahead ∙ ap (λ (x : List ℕ). (take own (drop at slots) ++ (slot_units own room (drop at slots) ∷ [])) ++ gathered_heads own room (n - (i + 1)) x) (behind at)

    -- its text
    pub texts_step : gathered_texts own room (n - i) (drop at slots) ≡ take (2 * slot_units own room (drop at slots)) (drop own (drop at slots)) ++ gathered_texts own room (n - (i + 1)) (drop (at + own + room) slots)
    texts_step = ap (λ (j : ℕ). gathered_texts own room j (drop at slots)) ahead ∙ ap (λ (x : List ℕ). take (2 * slot_units own room (drop at slots)) (drop own (drop at slots)) ++ gathered_texts own room (n - (i + 1)) x) (behind at)

    -- its units
    pub units_step : placed_units own room (n - i) (drop at slots) ≡ slot_units own room (drop at slots) + placed_units own room (n - (i + 1)) (drop (at + own + room) slots)
    units_step = ap (λ (j : ℕ). placed_units own room j (drop at slots)) ahead ∙ ap (λ (x : List ℕ). slot_units own room (drop at slots) + placed_units own room (n - (i + 1)) x) (behind at)

-- ---- the units of a text

-- the first is 0: none is used
ends : (l : List ℕ) → 2 ≤ length l → UnitEnds l 0 → used_units l ≡ 0
ends [] h e = absurd (omega arith)
ends (a ∷ []) h e = absurd (omega arith)
ends (zero ∷ zero ∷ l) h e = refl
ends (zero ∷ suc b ∷ l) h e = absurd (omega (arith, e.1))
ends (suc a ∷ b ∷ l) h e = absurd (omega (arith, e.0))

-- and is not: one more than behind it
goes : (l : List ℕ) → 2 ≤ length l → (UnitEnds l 0 → ⊥) → used_units l ≡ suc (used_units (drop 2 l))
goes [] h e = absurd (omega arith)
goes (a ∷ []) h e = absurd (omega arith)
goes (zero ∷ zero ∷ l) h e = absurd (e (refl, refl))
goes (zero ∷ suc b ∷ l) h e = ap (λ (x : Bool). cond (x && true) 0 (suc (used_units l))) (ne_eqb (suc b) 0 (λ z. omega arith))
goes (suc a ∷ b ∷ l) h e = ap (λ (x : Bool). cond (x && (eqb b 0 && true)) 0 (suc (used_units l))) (ne_eqb (suc a) 0 (λ z. omega arith))

-- the first i units were looked at
pub record Reading (s : List ℕ) (i : ℕ) : Type 0 where
  pub whole : length s ≡ length s / 2 * 2
  pub inside : i ≤ length s / 2
  pub counted : i + used_units (drop (i * 2) s) ≡ used_units s

pub reading_start : (s : List ℕ) → length s ≡ length s / 2 * 2 → Reading s 0
reading_start s e = record { whole = e; inside = omega arith; counted = omega arith }

module _ {s : List ℕ} {i : ℕ} (v : Reading s i) where
  module _ (h : i < length s / 2) where
    -- a next unit stands there
    pub reading_unit : i * 2 + 1 < length s
    reading_unit = omega (arith, v.whole)

    long : 2 ≤ length (drop (i * 2) s)
    long = omega (arith, length-drop (i * 2) s, reading_unit)

    high_is : get_or (drop (i * 2) s) 0 0 ≡ get_or s (i * 2) 0
    high_is =
        let z : i * 2 + 0 ≡ i * 2 = omega arith in
        get_or-drop (i * 2) s 0 0 ∙ ap (λ (j : ℕ). get_or s j 0) z

    low_is : get_or (drop (i * 2) s) 1 0 ≡ get_or s (i * 2 + 1) 0
    low_is = get_or-drop (i * 2) s 1 0

    -- it is 0
    pub reading_ends : UnitEnds s (i * 2) → TextEnds s (i * 2)
    reading_ends e = (omega (arith, v.counted, ends (drop (i * 2) s) long (high_is ∙ e.0, low_is ∙ e.1)), omega (arith, reading_unit))

    -- or another
    pub reading_goes : (UnitEnds s (i * 2) → ⊥) → Reading s (i + 1)
    reading_goes e =
        let g : used_units (drop (i * 2) s) ≡ suc (used_units (drop 2 (drop (i * 2) s))) = goes (drop (i * 2) s) long (λ z. e (sym high_is ∙ z.0, sym low_is ∙ z.1)) in
        let k : i * 2 + 2 ≡ (i + 1) * 2 = omega arith in
        let d : used_units (drop 2 (drop (i * 2) s)) ≡ used_units (drop ((i + 1) * 2) s) = ap used_units (drop-drop 2 (i * 2) s ∙ ap (λ (j : ℕ). drop j s) k) in
        record { whole = v.whole; inside = omega arith; counted = omega (arith, v.counted) }

  -- none is left
  pub reading_end : length s / 2 ≤ i → TextEnds s (i * 2)
  reading_end h =
      let l : length s ≤ i * 2 = omega (arith, v.whole) in
      let e : used_units (drop (i * 2) s) ≡ 0 = ap used_units (drop_of_length-le s {i = i * 2} l) in
      (omega (arith, v.counted), omega (arith, v.whole, v.inside))
