-- Taking a key out of slots, from the end: what is done so far, and what a turn does. Assumes nothing.
use Rattle.lists.proofs.Kit.{◌≡◌, refl, sym, ap, ◌∙◌, subst, Bool, true, false, List, [], ◌∷◌, ◌++◌, append-nil, append_assoc, ℕ, ◌+◌, ◌-◌, ◌*◌, ◌/◌, add-one, suc-mul, div-add-mod', mod-lt, mul-le-mul_right, ◌≤◌, ◌<◌, arith, put_mid, mid_of, length, drop, take, replicate, length-append, length-drop, drop_of_length-le, take_at, drop_at, take_all}
use Rattle.lists.proofs.Every.{all_left}
use Rattle.slots.specs.Slots.{pad, flat, Slots, same?, hit, removed}
use Rattle.slots.proofs.Pads.{pad_is}
use Rattle.slots.proofs.Parts.{flat_append}
use Rattle.slots.proofs.Search.{key_there}

-- the slots before `at` stand as they were, and those after it are done
pub record Gone (w o : ℕ) (key : List ℕ) (xs : List (List ℕ)) (s : List ℕ) (at : ℕ) : Type 0 where
  pub kept : List (List ℕ)
  pub done : List (List ℕ)
  pub all : xs ≡ kept ++ done
  pub here : length (flat kept) ≡ at
  pub bytes : s ≡ flat kept ++ flat (removed w o key done)

-- the same in a turn, with the slot that the turn looks at
pub record Turn (w o : ℕ) (key : List ℕ) (xs : List (List ℕ)) (s : List ℕ) (at : ℕ) : Type 0 where
  pub kept : List (List ℕ)
  pub x : List ℕ
  pub done : List (List ℕ)
  pub all : xs ≡ kept ++ (x ∷ done)
  pub here : length (flat kept) ≡ at
  pub long : length x ≡ w
  pub bytes : s ≡ flat kept ++ (x ++ flat (removed w o key done))

-- slots that are not none have a last one
record Last (w : ℕ) (xs : List (List ℕ)) : Type 0 where
  init : List (List ℕ)
  last : List ℕ
  both : xs ≡ init ++ (last ∷ [])
  long : length last ≡ w

-- a slot more from the end
one_more : (k w : ℕ) → (k + 1) * w ≡ k * w + w
one_more k w = ap (λ i. i * w) (add-one k) ∙ suc-mul k w

-- less than a slot is left before as many as fit
pub fewer_left : (n w k : ℕ) → 0 < w → n / w ≤ k → n - k * w < w
fewer_left n w k p h = omega (arith, div-add-mod' n w, mod-lt n p, mul-le-mul_right w h)

-- the last of slots that have bytes
last_of : (w : ℕ) (xs : List (List ℕ)) → Slots w xs → 0 < w → w ≤ length (flat xs) → Last w xs
last_of w [] q p h = absurd (omega arith)
last_of w (x ∷ []) q p h = record { init = []; last = x; both = refl; long = q.0 }
last_of w (x ∷ y ∷ ys) q p h =
    let r = last_of w (y ∷ ys) q.1 p (omega (arith, length-append y (flat ys), q.1.0)) in
    record { init = x ∷ r.init; last = r.last; both = ap (λ (l : List (List ℕ)). x ∷ l) r.both; long = r.long }

module _ (w o : ℕ) (key : List ℕ) (xs : List (List ℕ)) where
  -- at the end of the slots nothing is done
  pub gone_start : (s : List ℕ) → s ≡ flat xs → Gone w o key xs s (length s)
  gone_start s e = record { kept = xs; done = []; all = sym (append-nil xs); here = sym (ap length e); bytes = e ∙ sym (append-nil (flat xs)) }

  -- a turn takes the last slot that still stands as it was
  turn : (s : List ℕ) (at : ℕ) → Slots w xs → 0 < w → Gone w o key xs s at → w ≤ at → Turn w o key xs s (at - w)
  turn s at q p g h =
      let k = g.kept in
      let d = g.done in
      let r = last_of w k (all_left (λ x. length x ≡ w) k d (subst (Slots w) g.all q)) p (omega (arith, g.here)) in
      let i = r.init in
      let f : flat k ≡ flat i ++ r.last = ap flat r.both ∙ flat_append i (r.last ∷ []) ∙ ap (λ (l : List ℕ). flat i ++ l) (append-nil r.last) in
      record {
        kept = i;
        x = r.last;
        done = d;
        all = g.all ∙ ap (λ (l : List (List ℕ)). l ++ d) r.both ∙ append_assoc i (r.last ∷ []) d;
        here = omega (arith, ap length f, length-append (flat i) r.last, r.long, g.here);
        long = r.long;
        bytes = g.bytes ∙ ap (λ (l : List ℕ). l ++ flat (removed w o key d)) f ∙ append_assoc (flat i) r.last (flat (removed w o key d));
      }

  -- the same, where k slots of n bytes are done
  pub turn_of : (s : List ℕ) (n k : ℕ) → Slots w xs → 0 < w → Gone w o key xs s (n - k * w) → (k + 1) * w ≤ n → Turn w o key xs s (n - (k + 1) * w)
  turn_of s n k q p g h =
      let e : n - k * w - w ≡ n - (k + 1) * w = omega (arith, one_more k w) in
      subst (Turn w o key xs s) e (turn s (n - k * w) q p g (omega (arith, one_more k w)))

  -- all slots were looked at
  pub gone_end : (s : List ℕ) (at : ℕ) → Slots w xs → Gone w o key xs s at → at < w → s ≡ flat (removed w o key xs)
  gone_end s at q g h = go g.kept g.all g.here g.bytes
    where
      go : (k : List (List ℕ)) → xs ≡ k ++ g.done → length (flat k) ≡ at → s ≡ flat k ++ flat (removed w o key g.done) → s ≡ flat (removed w o key xs)
      go [] e l b = rw e b
      go (x ∷ k) e l b = absurd (omega (arith, length-append x (flat k), (subst (Slots w) e q).0))

module _ (w o : ℕ) (key : List ℕ) (xs : List (List ℕ)) (s : List ℕ) (at : ℕ) (t : Turn w o key xs s at) where
  -- what stands from the slot on
  from_slot : drop at s ≡ t.x ++ flat (removed w o key t.done)
  from_slot = ap (drop at) t.bytes ∙ drop_at (flat t.kept) (t.x ++ flat (removed w o key t.done)) at t.here

  -- the slot's key, read where it stands
  pub turn_key : o + length key ≤ w → {b : Bool} → same? (mid_of (at + o) (at + o + length key - (at + o)) s) key ≡ b → hit o key t.x ≡ b
  turn_key h e = key_there s t.x (flat (removed w o key t.done)) at o key from_slot (omega (arith, t.long)) e

  -- the slot has not the key, and stays
  pub turn_miss : hit o key t.x ≡ false → Gone w o key xs s at
  turn_miss m = record { kept = t.kept; done = t.x ∷ t.done; all = t.all; here = t.here; bytes = rw m t.bytes }

  -- the slot has the key, and what follows moves over it
  pub turn_hit : (u : List ℕ) → hit o key t.x ≡ true → u ≡ pad 0 (length (mid_of at (length s - at) s)) (drop w (mid_of at (length s - at) s)) → Gone w o key xs (put_mid at (length s - at) s u) at
  turn_hit u m e =
      let k = flat t.kept in
      let r = flat (removed w o key t.done) in
      let a : take at s ≡ k = ap (take at) t.bytes ∙ take_at k (t.x ++ r) at t.here in
      let b : mid_of at (length s - at) s ≡ t.x ++ r = take_all (length s - at) (drop at s) (omega (arith, length-drop at s)) ∙ from_slot in
      let z : drop (length s - at) (drop at s) ≡ [] = drop_of_length-le (drop at s) {i = length s - at} (omega (arith, length-drop at s)) in
      let n : length (t.x ++ r) ≡ w + length r = length-append t.x r ∙ ap (λ (i : ℕ). i + length r) t.long in
      let j : w + length r - length r ≡ w = omega arith in
      let v : u ≡ r ++ replicate w 0 = e ∙ (rw (b, n, drop_at t.x r w t.long) (pad_is 0 (w + length r) r ∙ (rw (take_all (w + length r) r (omega arith), j)))) in
      record {
        kept = t.kept;
        done = t.x ∷ t.done;
        all = t.all;
        here = t.here;
        bytes = rw (a, z, v, m, flat_append (removed w o key t.done) (replicate w 0 ∷ []), append-nil {A = ℕ} (replicate w 0), append-nil);
      }
