-- Texts moved between the area and places of their own: a table's slots in one form, made of its slots in the other. Assumes nothing.
use Rattle.lists.proofs.Kit.{ℕ, zero, suc, ◌+◌, ◌-◌, ◌*◌, ◌≤◌, ◌≡◌, refl, sym, ap, ap₂, ◌∙◌, Bool, cond, List, [], ◌∷◌, ◌++◌, map, append_assoc, append-nil, Option, none, some, arith, length, take, drop, get_or, replicate, length-append, length-replicate, get_or-replicate, replicate-append-replicate, drop_at, get_or_at, take_all, take_at}
use lib.ListN.{get_or-append}
use Rattle.lists.specs.Every.{All}
use Rattle.slots.specs.Slots.{flat, pad, places, Present}
use Rattle.slots.proofs.Numbers.{u16_shown}
use Rattle.slots.proofs.Pads.{pad_is, pad_length, pad_nil}
use Rattle.writing.specs.Settings.{Text}
use Rattle.tables.proofs.TextLaws.{Unit16}
use Rattle.shared_texts.specs.Moves.{spread, used_units, slot_units, gathered_heads, gathered_texts, placed_units}
use Rattle.tables.specs.Texts.{rows, present, units_of, unit_bytes}
use Rattle.shared_texts.proofs.Cuts.{unit_bytes_length}

-- zeros and one more
zeros_snoc : (i : ℕ) (y : List ℕ) → replicate (suc i) 0 ++ y ≡ replicate i 0 ++ (0 ∷ y)
zeros_snoc zero y = refl
zeros_snoc (suc i) y = ap (λ (l : List ℕ). 0 ∷ l) (zeros_snoc i y)

-- ---- units in a place

-- no unit stands in zeros
zeros_used : (n : ℕ) → used_units (pad 0 n []) ≡ 0
zeros_used zero = refl
zeros_used (suc zero) = refl
zeros_used (suc (suc n)) = refl

-- USED-TEXT: as many as the text has stand in its place
pub used_text : (n : ℕ) (us : Text) → length us ≤ n → All Unit16 us → used_units (pad 0 (2 * n) (unit_bytes us)) ≡ length us
used_text n [] h p = zeros_used (2 * n)
used_text zero (u ∷ us) h p = absurd (omega arith)
used_text (suc n) (u ∷ us) h p =
    let e : 2 * suc n ≡ suc (suc (2 * n)) = omega arith in
    ap (λ (i : ℕ). used_units (pad 0 i (unit_bytes (u ∷ us)))) e
    ∙ ap (λ (b : Bool). cond b 0 (suc (used_units (pad 0 (2 * n) (unit_bytes us))))) (u16_shown u p.0.0)
    ∙ ap suc (used_text n us (omega arith) p.1)

-- ---- an entry in both forms

-- x are the bytes that its slot has in both: h bytes before the number of units, or before n units' bytes of text
pub record Formed {A : Type 0} (P : A → Type 0) (text : A → Text) (h n : ℕ) (f g : A → List ℕ) : Type 0 where
  pub own : A → List ℕ
  pub long : (a : A) → length (own a) ≡ h
  pub head : (a : A) → f a ≡ own a ++ (length (text a) ∷ [])
  pub full : (a : A) → g a ≡ own a ++ pad 0 (2 * n) (unit_bytes (text a))
  pub short : (a : A) → P a → length (text a) ≤ n
  pub units : (a : A) → P a → All Unit16 (text a)

module _ {A : Type 0} (P : A → Type 0) (text : A → Text) (h n : ℕ) (f g : A → List ℕ) (k : Formed P text h n f g) where
  -- ---- loading

  -- an empty slot
  empty_spread : (x s : List ℕ) → take h (replicate (suc h) 0 ++ x) ++ pad 0 (2 * n) (take (2 * get_or (replicate (suc h) 0 ++ x) h 0) s) ≡ replicate (h + 2 * n) 0
  empty_spread x s =
      let e : replicate (suc h) 0 ++ x ≡ replicate h 0 ++ (0 ∷ x) = zeros_snoc h x in
      let t : take h (replicate (suc h) 0 ++ x) ≡ replicate h 0 = ap (take h) e ∙ take_at (replicate h 0) (0 ∷ x) h (length-replicate h 0) in
      let c : get_or (replicate (suc h) 0 ++ x) h 0 ≡ 0 = ap (λ (l : List ℕ). get_or l h 0) e ∙ get_or_at (replicate h 0) 0 x 0 h (length-replicate h 0) in
      ap₂ (λ (y : List ℕ) (i : ℕ). y ++ pad 0 (2 * n) (take (2 * i) s)) t c
      ∙ ap (λ (y : List ℕ). replicate h 0 ++ y) (pad_nil 0 (2 * n)) ∙ replicate-append-replicate h (2 * n) 0

  -- an entry's slot
  module _ (a : A) (x : List ℕ) where
    -- with the number of units apart
    head_is : f a ++ x ≡ k.own a ++ (length (text a) ∷ x)
    head_is = ap (λ (l : List ℕ). l ++ x) (k.head a) ∙ append_assoc (k.own a) (length (text a) ∷ []) x

    head_own : take h (f a ++ x) ≡ k.own a
    head_own = ap (take h) head_is ∙ take_at (k.own a) (length (text a) ∷ x) h (k.long a)

    head_units : get_or (f a ++ x) h 0 ≡ length (text a)
    head_units = ap (λ (l : List ℕ). get_or l h 0) head_is ∙ get_or_at (k.own a) (length (text a)) x 0 h (k.long a)

    entry_spread : (s : List ℕ) → take h (f a ++ x) ++ pad 0 (2 * n) (take (2 * get_or (f a ++ x) h 0) (unit_bytes (text a) ++ s)) ≡ g a
    entry_spread s =
        ap₂ (λ (y : List ℕ) (i : ℕ). y ++ pad 0 (2 * n) (take (2 * i) (unit_bytes (text a) ++ s))) head_own head_units
        ∙ ap (λ (y : List ℕ). k.own a ++ pad 0 (2 * n) y) (take_at (unit_bytes (text a)) s (2 * length (text a)) (unit_bytes_length (text a)))
        ∙ sym (k.full a)

  -- SPREAD-PLACES: heads and the texts that stand one after another make the slots with places for texts
  pub spread_places : (os : List (Option A)) (s : List ℕ) → spread h (2 * n) (length os) (places (suc h) f os) (flat (map unit_bytes (present (rows text os))) ++ s) ≡ places (h + 2 * n) g os
  spread_places [] s = refl
  spread_places (none ∷ os) s =
      let x : List ℕ = places (suc h) f os in
      let y : List ℕ = flat (map unit_bytes (present (rows text os))) ++ s in
      let d : drop (suc h) (replicate (suc h) 0 ++ x) ≡ x = drop_at (replicate (suc h) 0) x (suc h) (length-replicate (suc h) 0) in
      let c : get_or (replicate (suc h) 0 ++ x) h 0 ≡ 0 = get_or-append (replicate (suc h) 0) x 0 h (omega (arith, length-replicate {A = ℕ} (suc h) 0)) ∙ get_or-replicate (suc h) h 0 0 (omega arith) in
      ap₂ (λ (p q : List ℕ). p ++ q) (empty_spread x y)
      (ap₂ (λ (p : List ℕ) (i : ℕ). spread h (2 * n) (length os) p (drop (2 * i) y)) d c ∙ spread_places os s)
  spread_places (some a ∷ os) s =
      let x : List ℕ = places (suc h) f os in
      let y : List ℕ = flat (map unit_bytes (present (rows text os))) ++ s in
      let e : (unit_bytes (text a) ++ flat (map unit_bytes (present (rows text os)))) ++ s ≡ unit_bytes (text a) ++ y = append_assoc (unit_bytes (text a)) (flat (map unit_bytes (present (rows text os)))) s in
      let w : length (f a) ≡ suc h = omega (arith, ap length (k.head a), length-append (k.own a) (length (text a) ∷ []), k.long a) in
      let d : drop (suc h) (f a ++ x) ≡ x = drop_at (f a) x (suc h) w in
      ap (spread h (2 * n) (suc (length os)) (f a ++ x)) e
      ∙ ap₂ (λ (p q : List ℕ). p ++ q) (entry_spread a x y)
      (ap₂ (λ (p : List ℕ) (i : ℕ). spread h (2 * n) (length os) p (drop (2 * i) (unit_bytes (text a) ++ y))) d (head_units a x)
      ∙ ap (spread h (2 * n) (length os) x) (drop_at (unit_bytes (text a)) y (2 * length (text a)) (unit_bytes_length (text a)))
      ∙ spread_places os s)

  -- ---- saving

  -- an empty slot
  module _ (x : List ℕ) where
    -- h bytes and the place of the text
    empty_is : replicate (h + 2 * n) 0 ++ x ≡ replicate h 0 ++ (replicate (2 * n) 0 ++ x)
    empty_is = ap (λ (l : List ℕ). l ++ x) (sym (replicate-append-replicate h (2 * n) 0)) ∙ append_assoc (replicate h 0) (replicate (2 * n) 0) x

    empty_own : take h (replicate (h + 2 * n) 0 ++ x) ≡ replicate h 0
    empty_own = ap (take h) empty_is ∙ take_at (replicate h 0) (replicate (2 * n) 0 ++ x) h (length-replicate h 0)

    empty_units : slot_units h (2 * n) (replicate (h + 2 * n) 0 ++ x) ≡ 0
    empty_units =
        ap (λ (l : List ℕ). used_units (take (2 * n) (drop h l))) empty_is
        ∙ ap (λ (l : List ℕ). used_units (take (2 * n) l)) (drop_at (replicate h 0) (replicate (2 * n) 0 ++ x) h (length-replicate h 0))
        ∙ ap used_units (take_at (replicate (2 * n) 0) x (2 * n) (length-replicate (2 * n) 0) ∙ sym (pad_nil 0 (2 * n)))
        ∙ zeros_used (2 * n)

    empty_after : drop (h + 2 * n) (replicate (h + 2 * n) 0 ++ x) ≡ x
    empty_after = drop_at (replicate (h + 2 * n) 0) x (h + 2 * n) (length-replicate (h + 2 * n) 0)

  -- an entry's slot
  module _ (a : A) (p : P a) (x : List ℕ) where
    -- the place of its text
    abbrev place : List ℕ
    place = pad 0 (2 * n) (unit_bytes (text a))

    full_is : g a ++ x ≡ k.own a ++ (place ++ x)
    full_is = ap (λ (l : List ℕ). l ++ x) (k.full a) ∙ append_assoc (k.own a) place x

    full_own : take h (g a ++ x) ≡ k.own a
    full_own = ap (take h) full_is ∙ take_at (k.own a) (place ++ x) h (k.long a)

    full_rest : drop h (g a ++ x) ≡ place ++ x
    full_rest = ap (drop h) full_is ∙ drop_at (k.own a) (place ++ x) h (k.long a)

    full_units : slot_units h (2 * n) (g a ++ x) ≡ length (text a)
    full_units = ap (λ (l : List ℕ). used_units (take (2 * n) l)) full_rest ∙ ap used_units (take_at place x (2 * n) (pad_length 0 (2 * n) (unit_bytes (text a)))) ∙ used_text n (text a) (k.short a p) (k.units a p)

    full_text : take (2 * slot_units h (2 * n) (g a ++ x)) (drop h (g a ++ x)) ≡ unit_bytes (text a)
    full_text =
        let l = unit_bytes_length (text a) in
        let s = k.short a p in
        let e : place ≡ unit_bytes (text a) ++ replicate (2 * n - length (unit_bytes (text a))) 0
        = pad_is 0 (2 * n) (unit_bytes (text a)) ∙ ap (λ (y : List ℕ). y ++ replicate (2 * n - length (unit_bytes (text a))) 0) (take_all (2 * n) (unit_bytes (text a)) (omega arith)) in
        ap₂ (λ (i : ℕ) (y : List ℕ). take (2 * i) y) full_units (full_rest ∙ ap (λ (y : List ℕ). y ++ x) e ∙ append_assoc (unit_bytes (text a)) _ x)
        ∙ take_at (unit_bytes (text a)) _ (2 * length (text a)) l

    full_after : drop (h + 2 * n) (g a ++ x) ≡ x
    full_after = drop_at (g a) x (h + 2 * n) (ap length (k.full a) ∙ length-append (k.own a) place ∙ ap₂ (λ (i j : ℕ). i + j) (k.long a) (pad_length 0 (2 * n) (unit_bytes (text a))))

  -- GATHERED-HEADS: the heads of slots with places for texts
  pub heads_gathered : (os : List (Option A)) → All (Present P) os → gathered_heads h (2 * n) (length os) (places (h + 2 * n) g os) ≡ places (suc h) f os
  heads_gathered [] p = refl
  heads_gathered (none ∷ os) p =
      let x : List ℕ = places (h + 2 * n) g os in
      ap₂ (λ (y z : List ℕ). y ++ z)
      (ap₂ (λ (y : List ℕ) (i : ℕ). y ++ (i ∷ [])) (empty_own x) (empty_units x) ∙ sym (zeros_snoc h []) ∙ append-nil (replicate (suc h) 0))
      (ap (gathered_heads h (2 * n) (length os)) (empty_after x) ∙ heads_gathered os p.1)
  heads_gathered (some a ∷ os) p =
      let x : List ℕ = places (h + 2 * n) g os in
      ap₂ (λ (y z : List ℕ). y ++ z)
      (ap₂ (λ (y : List ℕ) (i : ℕ). y ++ (i ∷ [])) (full_own a p.0 x) (full_units a p.0 x) ∙ sym (k.head a))
      (ap (gathered_heads h (2 * n) (length os)) (full_after a p.0 x) ∙ heads_gathered os p.1)

  -- GATHERED-TEXTS: their texts
  pub texts_gathered : (os : List (Option A)) → All (Present P) os → gathered_texts h (2 * n) (length os) (places (h + 2 * n) g os) ≡ flat (map unit_bytes (present (rows text os)))
  texts_gathered [] p = refl
  texts_gathered (none ∷ os) p =
      let x : List ℕ = places (h + 2 * n) g os in
      ap₂ (λ (y z : List ℕ). y ++ z)
      (ap (λ (i : ℕ). take (2 * i) (drop h (replicate (h + 2 * n) 0 ++ x))) (empty_units x))
      (ap (gathered_texts h (2 * n) (length os)) (empty_after x) ∙ texts_gathered os p.1)
  texts_gathered (some a ∷ os) p =
      let x : List ℕ = places (h + 2 * n) g os in
      ap₂ (λ (y z : List ℕ). y ++ z) (full_text a p.0 x) (ap (gathered_texts h (2 * n) (length os)) (full_after a p.0 x) ∙ texts_gathered os p.1)

  -- PLACED-SUM: and how many units they have
  pub units_placed : (os : List (Option A)) → All (Present P) os → placed_units h (2 * n) (length os) (places (h + 2 * n) g os) ≡ units_of (present (rows text os))
  units_placed [] p = refl
  units_placed (none ∷ os) p =
      let x : List ℕ = places (h + 2 * n) g os in
      omega (arith, empty_units x, ap (placed_units h (2 * n) (length os)) (empty_after x), units_placed os p.1)
  units_placed (some a ∷ os) p =
      let x : List ℕ = places (h + 2 * n) g os in
      omega (arith, full_units a p.0 x, ap (placed_units h (2 * n) (length os)) (full_after a p.0 x), units_placed os p.1)
