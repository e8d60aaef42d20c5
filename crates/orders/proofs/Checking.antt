-- A part's order is checked entry by entry: each entry names a slot in use whose key stands behind the one before, and zeros follow. Assumes nothing.
use Prim.Native.Nat.{ℕ, suc, ◌+◌, ◌*◌, ◌-◌, ◌≤◌, ◌<◌}
use mathlib.Core.Path.{◌≡◌, refl, sym, ap, ap₂, ◌∙◌, subst}
use mathlib.Core.Bool.{Bool, true, false}
use mathlib.Core.Logic.{◌↔◌, ◌⊎◌, inl, inr}
use native.Mathlib.Nat.{eq-or-lt_of_le, le_trans, lt_of_lt_of_le}
use mathlib.Core.List.{List, map}
use native.Mathlib.Omega.{arith}
use borrow.Rule.Slice.PartMut.{mid_of}
use lib.ListN.{length, get_or, take, drop, length-drop, length-map}
use lib.Seq.{take_all, drop-drop, get_or-drop, get_or-take, length-take-le}
use Rattle.lists.specs.Every.{All}
use Rattle.lists.proofs.Every.{all_get, all_turn, all_map}
use Rattle.lists.proofs.Seqs.{get_d_map}
use Rattle.slots.specs.Slots.{zeros?}
use Rattle.orders.specs.Orders.{before, order_of, Ascends}
use Rattle.orders.specs.OrderParts.{key_at, order_bytes, Shaped, InOrder, InSlot, Lists, EntryOk}
use Rattle.orders.proofs.Laws.{ordered_distinct, order_length, order_of_one, order_of_ordered}
use Rattle.orders.proofs.OrderBytes.{bytes_behind, bytes_named, all_places, ascends_at, ascends_made}
use Rattle.orders.proofs.Steps.{refused}
use Rattle.orders.proofs.Lookups.{in_slot, in_order_lists, entry_is}

-- a byte up to n names a position below n
named_below : (b p n : ℕ) → p ≡ b - 1 → b ≤ n → 0 < n → p < n
named_below b p n e h k = omega arith

module _ (w o k n count : ℕ) (s : List ℕ) (h : Shaped w o k n s) where
  abbrev Ok : ℕ → Type 0
  Ok i = EntryOk (key_at w o k s) count s (n * w) i

  -- ---- one entry

  module _ (i b : ℕ) (l : i < count) (m : count ≤ n) (e : b ≡ get_or s (length s - n + i) 0) where
    -- the byte that is read
    entry_read : b ≡ get_or s (n * w + i) 0
    entry_read = let j : length s - n + i ≡ n * w + i = omega (arith, h.size) in e ∙ ap (λ (x : ℕ). get_or s x 0) j

    pub entry_zero : b ≡ 0 → (false ≡ true) ↔ Ok i
    entry_zero z = refused (λ ok. omega (arith, ok.some, entry_read))

    pub entry_past : count < b → (false ≡ true) ↔ Ok i
    entry_past z = refused (λ ok. omega (arith, ok.used, entry_read))

    pub entry_first : 0 < b → b ≤ count → i ≡ 0 → (true ≡ true) ↔ Ok i
    entry_first a c z = (λ t. record { some = omega (arith, entry_read); used = omega (arith, entry_read); behind = λ p. absurd (omega arith) }, λ ok. refl)

    pub entry_next : (p q : ℕ) (r : Bool) → 0 < b → b ≤ count → 0 < i → p ≡ get_or s (length s - n + i - 1) 0 - 1 → q ≡ b - 1 → (0 < i → get_or s (n * w + i - 1) 0 ≤ n)
        → (InSlot w o k p (length s) → InSlot w o k q (length s) → r ≡ before (key_at w o k s p) (key_at w o k s q)) → (r ≡ true) ↔ Ok i
    entry_next p q r a c z x y u v =
        let some : 0 < n = lt_of_lt_of_le (lt_of_lt_of_le a c) m in
        let j : length s - n + i - 1 ≡ n * w + i - 1 = omega (arith, h.size) in
        let f : p ≡ get_or s (n * w + i - 1) 0 - 1 = x ∙ ap (λ (t : ℕ). get_or s t 0 - 1) j in
        let g : q ≡ get_or s (n * w + i) 0 - 1 = y ∙ ap (λ (t : ℕ). t - 1) entry_read in
        let t : r ≡ before (key_at w o k s (get_or s (n * w + i - 1) 0 - 1)) (key_at w o k s (get_or s (n * w + i) 0 - 1))
        = v (in_slot w o k n s h p (named_below (get_or s (n * w + i - 1) 0) p n f (u z) some)) (in_slot w o k n s h q (named_below b q n y (le_trans c m) some)) ∙ ap₂ (λ (c d : ℕ). before (key_at w o k s c) (key_at w o k s d)) f g in
        (λ is. record { some = omega (arith, entry_read); used = omega (arith, entry_read); behind = λ p. sym t ∙ is }, λ ok. t ∙ ok.behind z)

  -- ---- all entries

  -- the entry before one of those that were checked
  pub entry_before : count ≤ n → (i : ℕ) → ((j : ℕ) → j < i → Ok j) → 0 < i → get_or s (n * w + i - 1) 0 ≤ n
  entry_before m i f z =
      let ok = f (i - 1) (omega arith) in
      let j : n * w + (i - 1) ≡ n * w + i - 1 = omega arith in
      let e : get_or s (n * w + (i - 1)) 0 ≡ get_or s (n * w + i - 1) 0 = ap (λ (x : ℕ). get_or s x 0) j in
      omega (arith, ok.used, e)

  -- one entry more was checked
  pub entries_more : (i : ℕ) → ((j : ℕ) → j < i → Ok j) → Ok i → (j : ℕ) → j < i + 1 → Ok j
  entries_more i f ok j l = (let x : j ≤ i = omega arith in go (eq-or-lt_of_le x))
    where
      go : (j ≡ i) ⊎ (j < i) → Ok j
      go (inl e) = subst (λ (x : ℕ). Ok x) (sym e) ok
      go (inr x) = f j x

  -- each entry of an order passes
  pub order_entry : InOrder w o k n count s → (i : ℕ) → i < count → Ok i
  order_entry g i l =
      let at = key_at w o k s in
      let ps = order_of at count in
      let f = in_order_lists w o k n s h count g in
      let e : get_or s (n * w + i) 0 ≡ suc (get_or ps i 0) = entry_is w o k n count s ps f i l in
      let b : get_or ps i 0 < count = all_get (λ p. p < count) ps i 0 (ordered_distinct at count ps f.many (below g) f.ascends).1.only (omega (arith, f.many)) in
      record { some = omega arith; used = omega arith; behind = λ z. go f z e }
    where
      below : InOrder w o k n count s → All (λ p. p < count) (order_of (key_at w o k s) count)
      below g = (order_of_ordered (key_at w o k s) count g.distinct).only

      go : Lists w o k n count s (order_of (key_at w o k s) count) → 0 < i → get_or s (n * w + i) 0 ≡ suc (get_or (order_of (key_at w o k s) count) i 0)
          → before (key_at w o k s (get_or s (n * w + i - 1) 0 - 1)) (key_at w o k s (get_or s (n * w + i) 0 - 1)) ≡ true
      go f z e =
          let j : n * w + i - 1 ≡ n * w + (i - 1) = omega arith in
          let d : get_or s (n * w + i - 1) 0 ≡ suc (get_or (order_of (key_at w o k s) count) (i - 1) 0)
          = ap (λ (x : ℕ). get_or s x 0) j ∙ entry_is w o k n count s (order_of (key_at w o k s) count) f (i - 1) (omega arith) in
          let a : get_or s (n * w + i - 1) 0 - 1 ≡ get_or (order_of (key_at w o k s) count) (i - 1) 0 = omega arith in
          let b : get_or s (n * w + i) 0 - 1 ≡ get_or (order_of (key_at w o k s) count) i 0 = omega arith in
          ap₂ (λ (x y : ℕ). before (key_at w o k s x) (key_at w o k s y)) a b
          ∙ ascends_at (key_at w o k s) (order_of (key_at w o k s) count) (i - 1) i f.ascends (omega arith) (omega (arith, f.many))

  -- zeros stand behind it
  order_behind : InOrder w o k n count s → zeros? (drop (n * w + count) s) ≡ true
  order_behind g =
      let ps = order_of (key_at w o k s) count in
      let m : length ps ≡ count = order_length (key_at w o k s) count in
      ap zeros? (sym (drop-drop count (n * w) s) ∙ ap (drop count) g.bytes ∙ ap (λ (i : ℕ). drop i (order_bytes n ps)) (sym m)) ∙ bytes_behind n ps

  -- entries that pass, with zeros behind them, are the order
  order_made : count ≤ n → ((j : ℕ) → j < count → Ok j) → zeros? (drop (n * w + count) s) ≡ true → InOrder w o k n count s
  order_made m f z =
      let at = key_at w o k s in
      let bs = drop (n * w) s in
      let l : length bs ≡ n = length-drop (n * w) s ∙ (let e : length s ≡ n * w + n = h.size in omega arith) in
      let c : length (take count bs) ≡ count = length-take-le count bs (omega arith) in
      let ps = map (λ b. b - 1) (take count bs) in
      let y : length ps ≡ count = length-map (take count bs) (λ b. b - 1) ∙ c in
      let a : All (λ b. (0 < b) × (b ≤ count)) (take count bs) = all_places (λ b. (0 < b) × (b ≤ count)) (take count bs) (λ i x. entry i (omega arith)) in
      let bytes : bs ≡ order_bytes n ps
      = subst (λ (i : ℕ). bs ≡ order_bytes i ps) l (bytes_named count bs (omega arith) (all_turn (λ b. (0 < b) × (b ≤ count)) (λ b. 0 < b) (λ b x. x.0) (take count bs) a) (ap zeros? (drop-drop count (n * w) s) ∙ z)) in
      let below : All (λ p. p < count) ps = all_map (λ b. (0 < b) × (b ≤ count)) (λ p. p < count) (λ b. b - 1) (λ b x. let u : 0 < b = x.0 in let v : b ≤ count = x.1 in omega arith) (take count bs) a in
      let up : Ascends at ps = ascends_made at ps (λ i x. next i (omega arith)) in
      record { room = m; distinct = (ordered_distinct at count ps y below up).0; bytes = bytes ∙ ap (order_bytes n) (order_of_one at count ps y below up) }
    where
      -- the byte in a place
      there : (i : ℕ) → i < count → get_or (take count (drop (n * w) s)) i 0 ≡ get_or s (n * w + i) 0
      there i x = get_or-take count (drop (n * w) s) i 0 x ∙ get_or-drop (n * w) s i 0

      entry : (i : ℕ) → i < count → (0 < get_or (take count (drop (n * w) s)) i 0) × (get_or (take count (drop (n * w) s)) i 0 ≤ count)
      entry i x = let ok = f i x in (omega (arith, there i x, ok.some), omega (arith, there i x, ok.used))

      position : (i : ℕ) → i < count → get_or (map (λ b. b - 1) (take count (drop (n * w) s))) i 0 ≡ get_or s (n * w + i) 0 - 1
      position i x =
          let l : length (drop (n * w) s) ≡ n = length-drop (n * w) s ∙ (let e : length s ≡ n * w + n = h.size in omega arith) in
          get_d_map (λ b. b - 1) (take count (drop (n * w) s)) i 0 0 (omega (arith, length-take-le count (drop (n * w) s) (omega arith))) ∙ ap (λ (b : ℕ). b - 1) (there i x)

      next : (i : ℕ) → suc i < count → before (key_at w o k s (get_or (map (λ b. b - 1) (take count (drop (n * w) s))) i 0)) (key_at w o k s (get_or (map (λ b. b - 1) (take count (drop (n * w) s))) (suc i) 0)) ≡ true
      next i x =
          let ok = f (suc i) x in
          let j : n * w + suc i - 1 ≡ n * w + i = omega arith in
          let a : get_or (map (λ b. b - 1) (take count (drop (n * w) s))) i 0 ≡ get_or s (n * w + suc i - 1) 0 - 1 = position i (omega arith) ∙ ap (λ (y : ℕ). get_or s y 0 - 1) (sym j) in
          ap₂ (λ (x y : ℕ). before (key_at w o k s x) (key_at w o k s y)) a (position (suc i) x) ∙ ok.behind (omega arith)

  -- the part's answer
  pub order_answer : (b : Bool) → count ≤ n → ((j : ℕ) → j < count → Ok j) → b ≡ zeros? (mid_of (length s - n + count) (length s - (length s - n + count)) s) → (b ≡ true) ↔ InOrder w o k n count s
  order_answer b m f e =
      let i : length s - n + count ≡ n * w + count = omega (arith, h.size) in
      let p : mid_of (length s - n + count) (length s - (length s - n + count)) s ≡ drop (n * w + count) s
      = take_all (length s - (length s - n + count)) (drop (length s - n + count) s) (omega (arith, length-drop (length s - n + count) s)) ∙ ap (λ (x : ℕ). drop x s) i in
      (λ t. order_made m f (sym (ap zeros? p) ∙ sym e ∙ t), λ g. e ∙ ap zeros? p ∙ order_behind g)
