-- Two keys compared byte by byte. Assumes nothing.
use Prim.Native.Nat.{ℕ, ◌+◌, ◌≤◌, ◌<◌}
use mathlib.Core.Path.{◌≡◌, refl, ◌∙◌}
use mathlib.Core.Bool.{Bool, true, false, ◌&&◌, ◌||◌}
use mathlib.Core.List.{List}
use native.Mathlib.Omega.{arith}
use native.Mathlib.Numerals.{add-one}
use borrow.Author.Tests.{ltb-true, ltb-false, le-ltb, eq-eqb, ne_eqb}
use lib.Dec.{ltb, eqb}
use lib.ListN.{length, get_or, drop, drop_of_length-le}
use lib.Seq.{drop-cons}
use Rattle.orders.specs.Orders.{before}

module _ (a b : List ℕ) (i : ℕ) where
  -- one byte more is compared
  less_step : i < length a → i < length b → before (drop i a) (drop i b) ≡ (ltb (get_or a i 0) (get_or b i 0) || (eqb (get_or a i 0) (get_or b i 0) && before (drop (i + 1) a) (drop (i + 1) b)))
  less_step h k = rw (add-one, drop-cons a i 0, drop-cons b i 0)

  -- the same byte leaves the rest
  pub less_more : i < length a → i < length b → get_or a i 0 ≡ get_or b i 0 → before (drop i a) (drop i b) ≡ before (drop (i + 1) a) (drop (i + 1) b)
  less_more h k e = less_step h k ∙ (rw (le-ltb (get_or a i 0) (get_or b i 0) (omega arith), eq-eqb (get_or a i 0) (get_or b i 0) e))

  -- another byte decides
  pub less_differ : i < length a → i < length b → (get_or a i 0 ≡ get_or b i 0 → ⊥) → before (drop i a) (drop i b) ≡ ltb (get_or a i 0) (get_or b i 0)
  less_differ h k d = less_step h k ∙ (rw (ne_eqb (get_or a i 0) (get_or b i 0) d) (go (ltb (get_or a i 0) (get_or b i 0))))
    where
      go : (c : Bool) → (c || false) ≡ c
      go true = refl
      go false = refl

  -- b ends first
  pub less_short : i < length a → length b ≤ i → before (drop i a) (drop i b) ≡ false
  less_short h k = rw (drop_of_length-le b {i = i} k, drop-cons a i 0)

  -- a ends first, or both end
  pub less_end : length a ≤ i → before (drop i a) (drop i b) ≡ ltb i (length b)
  less_end h = go (ltb i (length b)) refl
    where
      go : (c : Bool) → ltb i (length b) ≡ c → before (drop i a) (drop i b) ≡ ltb i (length b)
      go true t = let l : i < length b = ltb-true i (length b) t in rw (drop_of_length-le a {i = i} h, drop-cons b i 0, t)
      go false t = rw (drop_of_length-le a {i = i} h, drop_of_length-le b {i = i} (ltb-false i (length b) t), t)
