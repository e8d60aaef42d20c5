-- Looking for an address among the contacts of a list. Assumes nothing.
use Rattle.lists.proofs.Kit.{◌≡◌, refl, sym, ap, ◌∙◌, subst, Bool, false, List, [], ◌∷◌, ◌++◌, ℕ, zero, suc, ◌+◌, ◌*◌, ◌-◌, ◌≤◌, ◌<◌, ◌/◌, not-suc-le-zero, le_of_suc-le-suc, arith, ltb, true, ltb-true, ltb-false, length, take, drop, get_or, replicate, get_or-take, get_or-drop, get_or-append-add}
use lib.ListN.{get_or-append}
use Rattle.lists.specs.Every.{All}
use Rattle.slots.specs.Slots.{flat, pad, u16, same?, hit, unless, Slots}
use Rattle.slots.proofs.Changes.{unless_absent}
use Rattle.slots.proofs.Runs.{same_not}
use Rattle.counted_lists.specs.Counted.{Counted, KeyDropped, Told}
use Rattle.counted_lists.proofs.CountLaws.{counted_length, count_fits}
use Rattle.store_lists.specs.Lists.{AddressLooked}

-- a byte of a slot, read where it stands
slot_byte : (n : ℕ) (xs : List (List ℕ)) (j q : ℕ) → Slots 36 xs → length xs ≤ n → j < length xs → q < 36 → get_or (flat (pad (replicate 36 0) n xs)) (36 * j + q) 0 ≡ get_or (get_or xs j []) q 0
slot_byte n [] j q w h l k = absurd (not-suc-le-zero l)
slot_byte zero (x ∷ xs) j q w h l k = absurd (not-suc-le-zero h)
slot_byte (suc n) (x ∷ xs) zero q w h l k =
    let e : 36 * 0 + q ≡ q = omega arith in
    ap (λ (i : ℕ). get_or (x ++ flat (pad (replicate 36 0) n xs)) i 0) e ∙ get_or-append x (flat (pad (replicate 36 0) n xs)) 0 q (omega (arith, w.0))
slot_byte (suc n) (x ∷ xs) (suc j) q w h l k =
    let e : 36 * suc j + q ≡ length x + (36 * j + q) = omega (arith, w.0) in
    ap (λ (i : ℕ). get_or (x ++ flat (pad (replicate 36 0) n xs)) i 0) e ∙ get_or-append-add x (flat (pad (replicate 36 0) n xs)) (36 * j + q) 0
    ∙ slot_byte n xs j q w.1 (le_of_suc-le-suc h) (le_of_suc-le-suc l) k

-- the same behind the count
list_byte : (n : ℕ) (xs : List (List ℕ)) (s : List ℕ) → Counted 36 n xs s → (j q : ℕ) → j < length xs → q < 36 → get_or s (j * 36 + (q + 2)) 0 ≡ get_or (get_or xs j []) q 0
list_byte n xs s c j q l k =
    let e : j * 36 + (q + 2) ≡ suc (suc (36 * j + q)) = omega arith in
    ap (λ (t : List ℕ). get_or t (j * 36 + (q + 2)) 0) c.bytes ∙ ap (λ (i : ℕ). get_or (u16 (length xs) ++ flat (pad (replicate 36 0) n xs)) i 0) e
    ∙ slot_byte n xs j q c.each c.few l k

-- ---- looking

module _ (x y z : ℕ) (s : List ℕ) where
  -- the contact in place j has another address
  abbrev pub Other : ℕ → Type 0
  Other j = get_or s (j * 36 + 3) 0 ≡ x → get_or s (j * 36 + 3 + 1) 0 ≡ y → get_or s (j * 36 + 3 + 2) 0 ≡ z → ⊥

  -- so have those before place i
  abbrev pub OthersTo : ℕ → Type 0
  OthersTo i = (j : ℕ) → j < i → Other j

  -- one more
  pub others_on : (i : ℕ) → OthersTo i → Other i → OthersTo (i + 1)
  others_on i h o j l = go (ltb j i) refl
    where
      go : (b : Bool) → ltb j i ≡ b → Other j
      go true t = h j (ltb-true j i t)
      go false t = let e : i ≡ j = omega (arith, ltb-false j i t) in subst Other e o

  all_by : (P : List ℕ → Type 0) (xs : List (List ℕ)) → ((k : ℕ) → k < length xs → P (get_or xs k [])) → All P xs
  all_by P [] h = tt
  all_by P (e ∷ xs) h = (h 0 (omega arith), all_by P xs (λ k l. h (suc k) (omega arith)))

  -- all have
  pub others_end : (i held : ℕ) → Told s held → held ≤ i → OthersTo i → AddressLooked x y z s false
  others_end i held told h o _ n xs c = all_by (λ e. hit 1 (x ∷ y ∷ z ∷ []) e ≡ false) xs each
    where
      each : (j : ℕ) → j < length xs → hit 1 (x ∷ y ∷ z ∷ []) (get_or xs j []) ≡ false
      each j l = same_not (take 3 (drop 1 (get_or xs j []))) (x ∷ y ∷ z ∷ []) differ
        where
          byte : (q : ℕ) → q < 3 → take 3 (drop 1 (get_or xs j [])) ≡ x ∷ y ∷ z ∷ [] → get_or s (j * 36 + (1 + q + 2)) 0 ≡ get_or (x ∷ y ∷ z ∷ []) q 0
          byte q k e =
              list_byte n xs s c j (1 + q) l (omega arith) ∙ sym (get_or-drop 1 (get_or xs j []) q 0) ∙ sym (get_or-take 3 (drop 1 (get_or xs j [])) q 0 k) ∙ ap (λ (t : List ℕ). get_or t q 0) e

          at : (a b v : ℕ) → a ≡ b → get_or s a 0 ≡ v → get_or s b 0 ≡ v
          at a b v e h = ap (λ (i : ℕ). get_or s i 0) (sym e) ∙ h

          differ : take 3 (drop 1 (get_or xs j [])) ≡ x ∷ y ∷ z ∷ [] → ⊥
          differ e =
              o j (omega (arith, told.says 36 n xs c)) (byte 0 (omega arith) e) (at (j * 36 + (1 + 1 + 2)) (j * 36 + 3 + 1) y (omega arith) (byte 1 (omega arith) e))
              (at (j * 36 + (1 + 2 + 2)) (j * 36 + 3 + 2) z (omega arith) (byte 2 (omega arith) e))

  -- nothing was said
  pub looked_yes : AddressLooked x y z s true
  looked_yes h = let e : ◌≡◌ {A = ℕ} 0 1 = cc in absurd (omega arith)

-- ---- taking out

-- the address of a slot, byte by byte
address_bytes : (x : List ℕ) → 4 ≤ length x → take 3 (drop 1 x) ≡ get_or x 1 0 ∷ get_or x 2 0 ∷ get_or x 3 0 ∷ []
address_bytes [] h = absurd (not-suc-le-zero h)
address_bytes (a ∷ []) h = absurd (omega arith)
address_bytes (a ∷ b ∷ []) h = absurd (omega arith)
address_bytes (a ∷ b ∷ c ∷ []) h = absurd (omega arith)
address_bytes (a ∷ b ∷ c ∷ d ∷ x) h = refl

-- where no contact has the address, all stay
pub none_dropped : (x s : List ℕ) → 4 ≤ length x → (r : Bool) → r ≡ false → AddressLooked (get_or x 1 0) (get_or x 2 0) (get_or x 3 0) s r → KeyDropped 36 1 (take 3 (drop 1 x)) s s
none_dropped x s h r f k i n xs c =
    subst (λ (ys : List (List ℕ)). Counted 36 n ys s)
    (sym (unless_absent (hit 1 (take 3 (drop 1 x))) xs (subst (λ (key : List ℕ). All (λ e. hit 1 key e ≡ false) xs) (sym (address_bytes x h)) (k f n xs c)))) c
