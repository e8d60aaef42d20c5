-- Slots of which no two have one key: from the last to the first, a slot's key is looked for behind it where it has the mark of one there. Assumes nothing.
use Rattle.lists.proofs.Kit.{◌≡◌, refl, sym, ap, ◌∙◌, subst, Bool, true, false, cond, not, true≢false, ◌↔◌, ◌≢◌, List, [], ◌∷◌, ◌++◌, append_assoc, ℕ, zero, suc, ◌+◌, ◌-◌, ◌*◌, ◌≤◌, ◌<◌, not-suc-le-zero, le_of_suc-le-suc, suc-mul, zero-mul, mul-le-mul_right, arith, eqb, eqb-true, eqb-false, eq-eqb, mid_of, length, take, drop, get_or, set, replicate, length-append, length-drop, length-replicate, drop-drop, drop-nil, drop-cons, drop-length, drop-append-add, take_all, take_at, drop-append-le, take-append-le, get_or-set_same, get_or-set_other}
use Rattle.lists.specs.Every.{All}
use Rattle.lists.proofs.Every.{all_both, all_get, all_turn}
use Rattle.lists.proofs.Bools.{or_rest}
use Rattle.slots.specs.Slots.{flat, pad, Slots, bytes_before, zeros?, same?, hit, fit, Found, KeyAt}
use Rattle.slots.proofs.Pads.{pad_all, pad_is}
use Rattle.slots.proofs.Parts.{flat_append, slots_length}
use Rattle.slots.proofs.Runs.{zeros_all, same_refl, same_not}
use Rattle.counted_lists.specs.Counted.{Without, Distinct}
use Rattle.orders.specs.OrderedLists.{slot_key}
use Rattle.tables.proofs.AnswerLaws.{not_said, was_said}
use Rattle.store_check.specs.Checks.{Shown, mark_of, Filled}

-- ---- searches

-- the first empty slot stands behind those that are not
shown_before : (w n : ℕ) (xs : List (List ℕ)) → length xs ≤ n → All (Shown w) xs → bytes_before zeros? (pad (replicate w 0) n xs) ≡ length (flat xs)
shown_before w zero [] h p = refl
shown_before w zero (x ∷ xs) h p = absurd (not-suc-le-zero h)
shown_before w (suc n) [] h p = rw (zeros_all w)
shown_before w (suc n) (x ∷ xs) h p =
    rw p.0.1 (ap (λ (i : ℕ). length x + i) (shown_before w n xs (le_of_suc-le-suc h) p.1) ∙ sym (length-append x (flat xs)))

-- a search ends at the end where p says no of every slot
none_before : (p : List ℕ → Bool) (w : ℕ) → 0 < w → (xs : List (List ℕ)) → All (Shown w) xs → (bytes_before p xs ≡ length (flat xs)) ↔ All (λ x. p x ≡ false) xs
none_before p w h [] q = (λ e. tt, λ a. refl)
none_before p w h (x ∷ xs) q = go (p x) refl (none_before p w h xs q.1)
  where
    go : (b : Bool) → p x ≡ b → (bytes_before p xs ≡ length (flat xs)) ↔ All (λ y. p y ≡ false) xs
        → (cond b 0 (length x + bytes_before p xs) ≡ length (x ++ flat xs)) ↔ ((p x ≡ false) × All (λ y. p y ≡ false) xs)
    go true t r = (λ e. absurd (omega (arith, length-append x (flat xs), q.0.0)), λ a. absurd (true≢false (sym t ∙ a.0)))
    go false t r = (λ e. (t, r.0 (omega (arith, length-append x (flat xs)))), λ a. omega (arith, length-append x (flat xs), r.1 a.1))

-- ---- marks

-- so many elements in front are left out
all_drop : {A : Type 0} (P : A → Type 0) (k : ℕ) (xs : List A) → All P xs → All P (drop k xs)
all_drop P zero xs p = p
all_drop P (suc k) [] p = p
all_drop P (suc k) (x ∷ xs) p = all_drop P k xs p.1

distinct_drop : {A K : Type 0} (key : A → K) (k : ℕ) (xs : List A) → Distinct key xs → Distinct key (drop k xs)
distinct_drop key zero xs p = p
distinct_drop key (suc k) [] p = p
distinct_drop key (suc k) (x ∷ xs) p = distinct_drop key k xs p.1

-- a mark that is set stays set
mark_kept : (seen : List ℕ) (m j : ℕ) → m < length seen → get_or seen j 0 ≢ 0 → get_or (set seen m 1) j 0 ≢ 0
mark_kept seen m j h n = go (eqb j m) refl
  where
    go : (b : Bool) → eqb j m ≡ b → get_or (set seen m 1) j 0 ≢ 0
    go true t e =
        let q : j ≡ m = eqb-true j m t in
        let z : get_or (set seen m 1) m 0 ≡ 0 = ap (λ (i : ℕ). get_or (set seen m 1) i 0) (sym q) ∙ e in
        omega (arith, get_or-set_same seen m 1 0 h)
    go false t e = n (sym (get_or-set_other seen m j 1 0 (eqb-false j m t)) ∙ e)

-- the slot's key has a mark that is set
abbrev Marked : (o k : ℕ) → List ℕ → List ℕ → Type 0
Marked o k seen x = get_or seen (mark_of (slot_key o k x)) 0 ≢ 0

-- UNMARKED: where all have theirs and a key has none, none of them has the key
pub unmarked : (o k : ℕ) (seen key : List ℕ) (xs : List (List ℕ)) → All (Marked o k seen) xs → get_or seen (mark_of key) 0 ≡ 0 → Without (slot_key o k) key xs
unmarked o k seen key xs p z = all_turn (Marked o k seen) (λ x. slot_key o k x ≢ key) (λ x n e. n (ap (λ (l : List ℕ). get_or seen (mark_of l) 0) e ∙ z)) xs p

-- ---- a slot and those behind it

module _ (w o k : ℕ) where
  module _ (wide : 0 < w) (inside : o + k ≤ w) (key : List ℕ) (long : length key ≡ k) (later : List (List ℕ)) (each : All (Shown w) later) where
    -- a slot that is not empty is passed where it has another key
    key_passed : (y : List ℕ) → zeros? y ≡ false → (fit o key y ≡ false) ↔ (slot_key o k y ≢ key)
    key_passed y z =
        let e : fit o key y ≡ same? (slot_key o k y) key = or_rest (hit o key y) (zeros? y) z ∙ ap (λ (i : ℕ). same? (take i (drop o y)) key) long in (
          λ f g. true≢false (sym (ap (λ (u : List ℕ). same? u key) g ∙ same_refl key) ∙ sym e ∙ f),
          λ f. e ∙ same_not (slot_key o k y) key f,
        )

    -- KEY-NONE: the search ends at the end where no slot behind has the key
    pub key_none : (s : List ℕ) → s ≡ flat later → (r : ℕ) → Found (KeyAt w o key × (length key ≡ k)) (fit o key) w s r → (eqb r (length s) ≡ true) ↔ Without (slot_key o k) key later
    key_none s e r found =
        let c : Slots w later = all_turn (Shown w) (λ x. length x ≡ w) (λ x p. p.0) later each in
        let f : r ≡ bytes_before (fit o key) later = found.first (record { wide = wide; inside = omega arith }, long) later c e in
        let l : length s ≡ length (flat later) = ap length e in
        let t = none_before (fit o key) w wide later each in (
          λ q. all_both (Shown w) (λ y. fit o key y ≡ false) (λ y. slot_key o k y ≢ key) (λ y p. (key_passed y p.1).0) later each (t.0 (sym f ∙ eqb-true r (length s) q ∙ l)),
          λ a. eq-eqb r (length s) (f ∙ t.1 (all_both (Shown w) (λ y. slot_key o k y ≢ key) (λ y. fit o key y ≡ false) (λ y p. (key_passed y p.1).1) later each a) ∙ sym l),
        )

-- slots in front are so many bytes in front
flat_drop : (w i : ℕ) (xs : List (List ℕ)) → Slots w xs → drop (i * w) (flat xs) ≡ flat (drop i xs)
flat_drop w zero xs p = ap (λ (j : ℕ). drop j (flat xs)) (zero-mul w)
flat_drop w (suc i) [] p = drop-nil (suc i * w)
flat_drop w (suc i) (x ∷ xs) p =
    let e : suc i * w ≡ length x + i * w = suc-mul i w ∙ omega (arith, p.0) in
    ap (λ (j : ℕ). drop j (x ++ flat xs)) e ∙ drop-append-add x (flat xs) (i * w) ∙ flat_drop w i xs p.1

-- ---- a loop over the slots

module _ (w o k : ℕ) (xs : List (List ℕ)) where
  -- the slots from `at` on have keys of their own, and their marks are set
  pub record Behind (at : ℕ) (seen : List ℕ) : Type 0 where
    pub passed : ℕ
    pub few : passed ≤ length xs
    pub here : at ≡ passed * w
    pub apart : Distinct (slot_key o k) (drop passed xs)
    pub marked : All (Marked o k seen) (drop passed xs)

  -- the slot before them
  record Turn (at : ℕ) (seen : List ℕ) : Type 0 where
    pub index : ℕ
    pub few : index < length xs
    pub here : at ≡ index * w
    pub apart : Distinct (slot_key o k) (drop (suc index) xs)
    pub marked : All (Marked o k seen) (drop (suc index) xs)

  turn : 0 < w → (at : ℕ) (seen : List ℕ) → Behind at seen → w ≤ at → Turn (at - w) seen
  turn wide at seen q h = go q.passed q.few q.here q.apart q.marked
    where
      go : (i : ℕ) → i ≤ length xs → at ≡ i * w → Distinct (slot_key o k) (drop i xs) → All (Marked o k seen) (drop i xs) → Turn (at - w) seen
      go zero f e d m = absurd (omega (arith, zero-mul w))
      go (suc i) f e d m = record { index = i; few = f; here = omega (arith, suc-mul i w); apart = d; marked = m }

module _ (w o k : ℕ) (wide : 0 < w) (inside : o + k ≤ w) (n : ℕ) (xs : List (List ℕ)) (s : List ℕ) (t : Filled w n xs s) where
  all_slots : Slots w xs
  all_slots = all_turn (Shown w) (λ x. length x ≡ w) (λ x p. p.0) xs t.each

  -- the bytes are those of the slots, and zeros
  slots_first : s ≡ flat xs ++ flat (replicate (n - length xs) (replicate w 0))
  slots_first =
      let z : List ℕ = replicate w 0 in
      t.bytes ∙ ap flat (pad_is z n xs ∙ ap (λ (l : List (List ℕ)). l ++ replicate (n - length xs) z) (take_all n xs t.few)) ∙ flat_append xs (replicate (n - length xs) z)

  -- the first empty slot stands behind them
  slots_end : (end : ℕ) → Found (0 < w) zeros? w s end → end ≡ length xs * w
  slots_end end found =
      let z : List ℕ = replicate w 0 in
      let q : Slots w (pad z n xs) = pad_all z (λ x. length x ≡ w) (length-replicate w 0) n xs all_slots in
      found.first wide (pad z n xs) q t.bytes ∙ shown_before w n xs t.few t.each ∙ slots_length w xs all_slots

  -- what stands from slot i on
  slots_drop : (i : ℕ) → i * w ≤ length xs * w → drop (i * w) s ≡ flat (drop i xs) ++ flat (replicate (n - length xs) (replicate w 0))
  slots_drop i h =
      ap (drop (i * w)) slots_first ∙ drop-append-le (i * w) (flat xs) _ (omega (arith, slots_length w xs all_slots))
      ∙ ap (λ (y : List ℕ). y ++ flat (replicate (n - length xs) (replicate w 0))) (flat_drop w i xs all_slots)

  -- up to the first empty one
  slots_from : (end : ℕ) → end ≡ length xs * w → (i : ℕ) → i * w ≤ end → mid_of (i * w) (end - i * w) s ≡ flat (drop i xs)
  slots_from end e i h =
      let l : length (flat (drop i xs)) ≡ end - i * w
      = ap length (sym (flat_drop w i xs all_slots)) ∙ length-drop (i * w) (flat xs) ∙ omega (arith, slots_length w xs all_slots) in
      ap (take (end - i * w)) (slots_drop i (omega arith)) ∙ take_at (flat (drop i xs)) _ (end - i * w) l

  -- at the start there are none
  pub distinct_start : (end : ℕ) → Found (0 < w) zeros? w s end → (seen : List ℕ) → Behind w o k xs end seen
  distinct_start end found seen =
      let e : drop (length xs) xs ≡ [] = drop-length xs in
      record { passed = length xs; few = omega arith; here = slots_end end found; apart = subst (Distinct (slot_key o k)) (sym e) tt; marked = subst (All (Marked o k seen)) (sym e) tt }

  -- at the end they are all
  pub distinct_end : (at : ℕ) (seen : List ℕ) → Behind w o k xs at seen → at < w → Distinct (slot_key o k) xs
  distinct_end at seen q h = go q.passed q.here q.apart
    where
      go : (i : ℕ) → at ≡ i * w → Distinct (slot_key o k) (drop i xs) → Distinct (slot_key o k) xs
      go zero e d = d
      go (suc i) e d = absurd (omega (arith, suc-mul i w))

  module _ (end : ℕ) (found : Found (0 < w) zeros? w s end) (at : ℕ) (seen : List ℕ) (q : Behind w o k xs at seen) (h : w ≤ at) where
    abbrev it : Turn w o k xs (at - w) seen
    it = turn w o k xs wide at seen q h

    -- its slot
    abbrev slot : List ℕ
    slot = get_or xs it.index []

    -- and those behind it
    abbrev later : List (List ℕ)
    later = drop (suc it.index) xs

    behind : drop it.index xs ≡ slot ∷ later
    behind = drop-cons xs it.index [] it.few

    -- as they are read
    later_shown : All (Shown w) later
    later_shown = all_drop (Shown w) (suc it.index) xs t.each

    later_read : mid_of at (end - at) s ≡ flat later
    later_read =
        let e : end ≡ length xs * w = slots_end end found in
        let i : at ≡ suc it.index * w = omega (arith, it.here, suc-mul it.index w) in
        let m : suc it.index * w ≤ length xs * w = mul-le-mul_right w it.few in
        ap (λ (j : ℕ). mid_of j (end - j) s) i ∙ slots_from end e (suc it.index) (omega arith)

    -- its key
    abbrev key : List ℕ
    key = mid_of (at - w + o) (at - w + o + k - (at - w + o)) s

    key_read : key ≡ slot_key o k slot
    key_read =
        let m : it.index * w ≤ length xs * w = mul-le-mul_right w (omega (arith, it.few)) in
        let j : at - w + o + k - (at - w + o) ≡ k = omega arith in
        let l : length slot ≡ w = all_get (λ x. length x ≡ w) xs it.index [] all_slots it.few in
        let z : List ℕ = flat (replicate (n - length xs) (replicate w 0)) in
        let e : drop (at - w) s ≡ slot ++ (flat later ++ z)
        = ap (λ (i : ℕ). drop i s) it.here ∙ slots_drop it.index m ∙ ap (λ (ys : List (List ℕ)). flat ys ++ z) behind ∙ append_assoc slot (flat later) z in
        ap (λ (i : ℕ). take i (drop (at - w + o) s)) j
        ∙ ap (take k) (sym (drop-drop o (at - w) s) ∙ ap (drop o) e ∙ drop-append-le o slot (flat later ++ z) (omega arith))
        ∙ take-append-le k (drop o slot) (flat later ++ z) (omega (arith, length-drop o slot))

    module _ (m : ℕ) (e : m ≡ mark_of key) (b : Bool) (says : (ys : List (List ℕ)) → All (Shown w) ys → mid_of at (end - at) s ≡ flat ys → (get_or seen m 0 ≡ 0 → Without (slot_key o k) key ys) → (b ≡ true) ↔ Without (slot_key o k) key ys) where
      -- a mark that is not set says that none of them has the key
      told : (b ≡ true) ↔ Without (slot_key o k) key later
      told = says later later_shown later_read (λ z. unmarked o k seen key later it.marked (ap (λ (i : ℕ). get_or seen i 0) (sym e) ∙ z))

      -- DISTINCT-MORE: the slot's key is none of theirs: its mark is set too
      pub distinct_more : m < length seen → not b ≡ false → Behind w o k xs (at - w) (set seen m 1)
      distinct_more f y =
          let j : mark_of (slot_key o k slot) ≡ m = ap mark_of (sym key_read) ∙ sym e in
          let u : Marked o k (set seen m 1) slot = λ z. omega (arith, get_or-set_same seen m 1 0 f, ap (λ (i : ℕ). get_or (set seen m 1) i 0) (sym j) ∙ z) in
          let v = all_turn (Marked o k seen) (Marked o k (set seen m 1)) (λ y. mark_kept seen m (mark_of (slot_key o k y)) f) later it.marked in
          let d = subst (λ (y : List ℕ). Without (slot_key o k) y later) key_read (was_said b told y) in
          record {
            passed = it.index;
            few = omega (arith, it.few);
            here = it.here;
            apart = subst (Distinct (slot_key o k)) (sym behind) (d, it.apart);
            marked = subst (All (Marked o k (set seen m 1))) (sym behind) (u, v);
          }

      -- DISTINCT-STOP: it is another's too
      pub distinct_stop : not b ≡ true → Distinct (slot_key o k) xs → ⊥
      distinct_stop y d =
          let x : Distinct (slot_key o k) (slot ∷ later) = subst (Distinct (slot_key o k)) behind (distinct_drop (slot_key o k) it.index xs d) in
          not_said b told y (subst (λ (y : List ℕ). Without (slot_key o k) y later) (sym key_read) x.0)
