-- A search among slots, from the front: what is left to look at, and what a slot shows. Assumes nothing.
use Rattle.lists.proofs.Kit.{◌≡◌, sym, ap, ◌∙◌, Bool, true, false, List, [], ◌∷◌, ◌++◌, ℕ, ◌+◌, ◌-◌, ◌≤◌, ◌<◌, arith, mid_of, length, drop, take, length-append, length-drop, take_at, drop_at, drop-drop, drop-append-le, take-append-le}
use Rattle.slots.specs.Slots.{flat, Slots, bytes_before, same?, hit}

-- the slots that are left from `at` on, in a search for one that p says yes of
pub record Rest (p : List ℕ → Bool) (s : List ℕ) (w at : ℕ) (xs : List (List ℕ)) : Type 0 where
  pub rest : List (List ℕ)
  pub slots : Slots w rest
  pub here : drop at s ≡ flat rest
  pub sum : bytes_before p xs ≡ at + bytes_before p rest

-- the same with the next slot
record Next (p : List ℕ → Bool) (s : List ℕ) (w at : ℕ) (xs : List (List ℕ)) : Type 0 where
  rest : List (List ℕ)
  slots : Slots w rest
  here : drop (at + w) s ≡ flat rest
  sum : bytes_before p xs ≡ at + bytes_before p (take w (drop at s) ∷ rest)
  long : length (take w (drop at s)) ≡ w

-- at the start all slots are left
pub search_start : (p : List ℕ → Bool) (s : List ℕ) (w : ℕ) (xs : List (List ℕ)) → Slots w xs → s ≡ flat xs → Rest p s w 0 xs
search_start p s w xs q e = record { rest = xs; slots = q; here = e; sum = omega arith }

module _ (p : List ℕ → Bool) (s : List ℕ) (w at : ℕ) (xs : List (List ℕ)) (r : Rest p s w at xs) where
  -- where a slot is left there is a next one
  next : 0 < w → w ≤ length s - at → Next p s w at xs
  next c h = go r.rest r.slots r.here r.sum
    where
      go : (ys : List (List ℕ)) → Slots w ys → drop at s ≡ flat ys → bytes_before p xs ≡ at + bytes_before p ys → Next p s w at xs
      go [] q e u = absurd (omega (arith, length-drop at s, ap length e))
      go (y ∷ ys) q e u =
          let f : take w (drop at s) ≡ y = ap (take w) e ∙ take_at y (flat ys) w q.0 in
          record {
            rest = ys;
            slots = q.1;
            here = sym (drop-drop w at s) ∙ ap (drop w) e ∙ drop_at y (flat ys) w q.0;
            sum = rw f u;
            long = rw f q.0;
          }

  -- p says no of the next slot
  pub search_more : 0 < w → w ≤ length s - at → p (take w (drop at s)) ≡ false → Rest p s w (at + w) xs
  search_more c h z =
      let n = next c h in
      let v : bytes_before p (take w (drop at s) ∷ n.rest) ≡ length (take w (drop at s)) + bytes_before p n.rest = rw z in
      record { rest = n.rest; slots = n.slots; here = n.here; sum = omega (arith, n.sum, n.long, v) }

  -- p says yes of it
  pub search_stop : 0 < w → w ≤ length s - at → p (take w (drop at s)) ≡ true → at ≡ bytes_before p xs
  search_stop c h z =
      let n = next c h in
      let v : bytes_before p (take w (drop at s) ∷ n.rest) ≡ 0 = rw z in
      omega (arith, n.sum, v)

  -- no slot is left
  pub search_end : length s - at < w → at ≡ bytes_before p xs
  search_end h = go r.rest r.slots r.here r.sum
    where
      go : (ys : List (List ℕ)) → Slots w ys → drop at s ≡ flat ys → bytes_before p xs ≡ at + bytes_before p ys → at ≡ bytes_before p xs
      go [] q e u = omega (arith, u)
      go (y ∷ ys) q e u = absurd (omega (arith, length-drop at s, ap length e, length-append y (flat ys), q.0))

-- ---- a slot, cut off the front of what is left

-- x is the slot that stands at `at` in s, before t
pub record Chunk (s : List ℕ) (at w : ℕ) (x t : List ℕ) : Type 0 where
  pub fits : w ≤ length s - at
  pub is : take w (drop at s) ≡ x
  pub rest : t ≡ drop (at + w) s

module _ (s : List ℕ) (at w : ℕ) where
  -- a slot comes off the front
  pub chunk : (x t r : List ℕ) → r ≡ drop at s → r ≡ x ++ t → length x ≡ w → Chunk s at w x t
  chunk x t r e f l =
      record {
        fits = omega (arith, length-drop at s, ap length (sym e ∙ f), length-append x t);
        is = ap (take w) (sym e ∙ f) ∙ take_at x t w l;
        rest = sym (drop_at x t w l) ∙ ap (drop w) (sym f ∙ e) ∙ drop-drop w at s;
      }

  -- too little is left for a slot
  pub chunk_end : (n : ℕ) (r : List ℕ) → r ≡ drop at s → n ≡ w → length r < n → length s - at < w
  chunk_end n r e m h = omega (arith, length-drop at s, ap length e)

-- ---- a slot, read

-- a key of n bytes, read in the slot x
pub slot_hit : (x : List ℕ) (o n : ℕ) (key : List ℕ) → length key ≡ n → {b : Bool} → b ≡ same? (mid_of o (o + n - o) x) key → hit o key x ≡ b
slot_hit x o n key l {b} e =
    let k : o + n - o ≡ length key = omega arith in
    let h : same? (mid_of o (o + n - o) x) key ≡ b = sym e in
    rw k at h

-- the key of the slot x, which stands at `at` before r
pub key_there : (s x r : List ℕ) (at o : ℕ) (key : List ℕ) → drop at s ≡ x ++ r → o + length key ≤ length x → {b : Bool} → same? (mid_of (at + o) (at + o + length key - (at + o)) s) key ≡ b → hit o key x ≡ b
key_there s x r at o key d h {b} e =
    let n : at + o + length key - (at + o) ≡ length key = omega arith in
    let f : drop (at + o) s ≡ drop o x ++ r = sym (drop-drop o at s) ∙ ap (drop o) d ∙ drop-append-le o x r (omega arith) in
    let g : mid_of (at + o) (at + o + length key - (at + o)) s ≡ take (length key) (drop o x) = (rw (n, f) (take-append-le (length key) (drop o x) r (omega (arith, length-drop o x)))) in
    ap (λ (m : List ℕ). same? m key) (sym g) ∙ e
