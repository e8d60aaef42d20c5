-- The bytes of an area, looked at: where the first unit 0 stands says how many units do. Assumes nothing.
use Rattle.lists.proofs.Kit.{ℕ, zero, suc, ◌+◌, ◌-◌, ◌*◌, ◌/◌, ◌≤◌, ◌<◌, ◌≡◌, refl, sym, ap, ap₂, ◌∙◌, subst, Bool, true, false, ◌&&◌, cond, true≢false, ◌↔◌, ◌≢◌, List, [], ◌∷◌, ◌++◌, le_of_suc-le-suc, arith, eqb-true, eq-eqb, mid_of, eqb, length, take, drop, length-drop, take-append-drop, length-take-le, take_all}
use Rattle.lists.proofs.Bools.{and_parts}
use Rattle.lists.specs.Every.{All}
use Rattle.slots.specs.Slots.{flat, zeros?, bytes_before, Found, Slots}
use Rattle.shared_texts.specs.Moves.{used_units}
use Rattle.tables.specs.Texts.{front_units, AreaFilled}

-- two bytes of which the first unit is made
two_zeros : (p q : ℕ) → (zeros? (p ∷ q ∷ []) ≡ true) ↔ (p * 256 + q ≡ 0)
two_zeros p q = (
  λ z.
      let a = and_parts (eqb p 0) (eqb q 0 && true) z in
      let b : p ≡ 0 = eqb-true p 0 a.0 in
      let c : q ≡ 0 = eqb-true q 0 (and_parts (eqb q 0) true a.1).0 in
      omega arith,
  λ e.
      let b : p ≡ 0 = omega arith in
      let c : q ≡ 0 = omega arith in
      ap₂ (λ (x y : Bool). x && (y && true)) (eq-eqb p 0 b) (eq-eqb q 0 c),
)

-- n units are there where the first 0 stands behind them
before_units : (n : ℕ) (xs : List (List ℕ)) → Slots 2 xs → n ≤ length xs → (2 * n ≤ bytes_before zeros? xs) ↔ All (λ u. u ≢ 0) (front_units n (flat xs))
before_units zero xs q h = (λ k. tt, λ p. omega arith)
before_units (suc n) [] q h = absurd (omega arith)
before_units (suc n) ([] ∷ xs) q h = absurd (omega (arith, q.0))
before_units (suc n) ((b ∷ []) ∷ xs) q h = absurd (omega (arith, q.0))
before_units (suc n) ((b ∷ c ∷ d ∷ x) ∷ xs) q h = absurd (omega (arith, q.0))
before_units (suc n) ((b ∷ c ∷ []) ∷ xs) q h = go (zeros? (b ∷ c ∷ [])) refl (before_units n xs q.1 (le_of_suc-le-suc h))
  where
    go : (z : Bool) → zeros? (b ∷ c ∷ []) ≡ z → (2 * n ≤ bytes_before zeros? xs) ↔ All (λ u. u ≢ 0) (front_units n (flat xs))
        → (2 * suc n ≤ cond z 0 (2 + bytes_before zeros? xs)) ↔ ((b * 256 + c ≢ 0) × All (λ u. u ≢ 0) (front_units n (flat xs)))
    go true z r = (λ k. absurd (omega arith), λ p. absurd (p.0 ((two_zeros b c).0 z)))
    go false z r = (
      λ k. ((λ e. true≢false (sym ((two_zeros b c).1 e) ∙ z)), r.0 (omega arith)),
      λ p. let k = r.1 p.1 in omega arith,
    )

-- bytes in pairs
pairs : ℕ → List ℕ → List (List ℕ)
pairs zero s = []
pairs (suc k) s = take 2 s ∷ pairs k (drop 2 s)

-- as many as they are
pairs_many : (k : ℕ) (s : List ℕ) → length (pairs k s) ≡ k
unfolding pairs
pairs_many zero s = refl
pairs_many (suc k) s = ap suc (pairs_many k (drop 2 s))

-- of two bytes each
pairs_slots : (k : ℕ) (s : List ℕ) → length s ≡ k * 2 → Slots 2 (pairs k s)
unfolding pairs
pairs_slots zero s l = tt
pairs_slots (suc k) s l = (length-take-le 2 s (omega arith), pairs_slots k (drop 2 s) (omega (arith, length-drop 2 s)))

-- and they make the bytes
pairs_flat : (k : ℕ) (s : List ℕ) → length s ≡ k * 2 → s ≡ flat (pairs k s)
unfolding pairs
pairs_flat zero [] l = refl
pairs_flat zero (x ∷ s) l = absurd (omega arith)
pairs_flat (suc k) s l = sym (take-append-drop 2 s) ∙ ap (λ (x : List ℕ). take 2 s ++ x) (pairs_flat k (drop 2 s) (omega (arith, length-drop 2 s)))

-- what stands before the first 0 is as many units
before_used : (k : ℕ) (s : List ℕ) → length s ≡ k * 2 → bytes_before zeros? (pairs k s) ≡ 2 * used_units s
unfolding pairs
before_used zero [] l = refl
before_used zero (b ∷ s) l = absurd (omega arith)
before_used (suc k) [] l = absurd (omega arith)
before_used (suc k) (b ∷ []) l = absurd (omega arith)
before_used (suc k) (b ∷ c ∷ s) l = go (zeros? (b ∷ c ∷ [])) (before_used k s (omega arith))
  where
    go : (z : Bool) → bytes_before zeros? (pairs k s) ≡ 2 * used_units s → cond z 0 (2 + bytes_before zeros? (pairs k s)) ≡ 2 * cond z 0 (suc (used_units s))
    go true e = refl
    go false e = omega arith

module _ (k : ℕ) (s : List ℕ) (r : ℕ) (l : length s ≡ k * 2) (found : Found (0 < 2) zeros? 2 s r) where
  -- a search for the first unit 0 looked at the pairs
  found_pairs : r ≡ bytes_before zeros? (pairs k s)
  found_pairs = found.first (omega arith) (pairs k s) (pairs_slots k s l) (pairs_flat k s l)

  -- USED-IS: it ends behind the units that are used
  pub used_is : r ≡ 2 * used_units s
  used_is = found_pairs ∙ before_used k s l

  -- n units are there where it ends behind them
  units_there : (n : ℕ) → n ≤ k → (2 * n ≤ r) ↔ All (λ u. u ≢ 0) (front_units n s)
  units_there n h =
      let e = pairs_flat k s l in
      let b = before_units n (pairs k s) (pairs_slots k s l) (omega (arith, pairs_many k s)) in (
        λ i. subst (λ (x : List ℕ). All (λ u. u ≢ 0) (front_units n x)) (sym e) (b.0 (omega (arith, found_pairs))),
        λ p. let j = b.1 (subst (λ (x : List ℕ). All (λ u. u ≢ 0) (front_units n x)) e p) in omega (arith, found_pairs),
      )

  -- FILLED-IS: an area of whole units is filled with n of them where the first 0 stands no earlier than behind them, and zeros from there on
  pub filled_is : (n : ℕ) → ((2 * n ≤ r) × (zeros? (drop (2 * n) s) ≡ true)) ↔ AreaFilled n s
  filled_is n = (
    λ x. let i = x.0 in record { room = omega (arith, found.within); units = (units_there n (omega (arith, found.within))).0 x.0; rest = x.1 },
    λ f. ((units_there n (omega (arith, f.room))).1 f.units, f.rest),
  )

  -- as code asks: where fewer units stand there it is not
  pub area_less : (n : ℕ) → r / 2 < n → AreaFilled n s → ⊥
  area_less n h f = let i = ((filled_is n).1 f).0 in omega arith

  -- else the bytes behind n units decide
  pub area_told : (n : ℕ) → n ≤ r / 2 → (b : Bool) → b ≡ zeros? (mid_of (n * 2) (length s - n * 2) s) → (b ≡ true) ↔ AreaFilled n s
  area_told n h b e =
      let i : n * 2 ≡ 2 * n = omega arith in
      let z : b ≡ zeros? (drop (2 * n) s) = e ∙ ap zeros? (take_all (length s - n * 2) (drop (n * 2) s) (omega (arith, length-drop (n * 2) s)) ∙ ap (λ (j : ℕ). drop j s) i) in
      let f = filled_is n in
      (λ t. f.0 (omega arith, sym z ∙ t), λ x. z ∙ (f.1 x).1)
