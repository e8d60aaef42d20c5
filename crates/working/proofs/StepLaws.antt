-- Runs of bytes put one behind another. Assumes nothing.
use Rattle.lists.proofs.Kit.{ℕ, suc, ◌+◌, ◌-◌, ◌*◌, ◌≤◌, ◌<◌, ◌≡◌, sym, ap, ap₂, ◌∙◌, List, ◌++◌, arith, put_mid, mid_of, mid_len, length, take, drop, length-drop, length-take-le}
use Rattle.slots.proofs.Runs.{copy_whole}
use Rattle.shared_texts.specs.declared.Run.{Run}
use Rattle.shared_texts.specs.Moves.{spread}
use Rattle.shared_texts.specs.Regions.{last_bytes}
use Rattle.shared_texts.specs.Shared.{heads_in}
use Rattle.working.specs.Loading.{slots_size, loaded_slots, next_place}
use Rattle.working.specs.Runs.{slots_end, heads_end}

-- what stands between a place and n bytes behind it
pub behind : (a n : ℕ) → a + n - a ≡ n
behind a n = omega arith

-- n bytes were copied to a place
pub run_copied : (w s y : List ℕ) (to from n : ℕ) → to + n ≤ length w → from + n ≤ length s
    → y ≡ take (length (mid_of to (to + n - to) w)) (mid_of from (from + n - from) s) ++ drop (length (mid_of from (from + n - from) s)) (mid_of to (to + n - to) w)
    → put_mid to (to + n - to) w y ≡ put_mid to n w (mid_of from n s)
run_copied w s y to from n h k e =
    let l : length (mid_of to (to + n - to) w) ≡ length (mid_of from (from + n - from) s) = mid_len to (to + n) w h ∙ behind to n ∙ sym (mid_len from (from + n) s k ∙ behind from n) in
    let d : y ≡ mid_of from n s = e ∙ copy_whole (mid_of from (from + n - from) s) (mid_of to (to + n - to) w) l ∙ ap (λ (i : ℕ). mid_of from i s) (behind from n) in
    ap₂ (λ (i : ℕ) (x : List ℕ). put_mid to i w x) (behind to n) d

-- ---- a table

module _ (x : Run) (w s texts : List ℕ) (place end tail : ℕ) (e : end ≡ slots_end x) (d : tail ≡ heads_end x) (room : slots_end x ≤ length w) (heads : heads_end x ≤ length s) where
  -- its heads, as they are lent
  abbrev lent : List ℕ
  lent = mid_of x.start (tail - x.start) s

  lent_is : lent ≡ heads_in s x
  lent_is = let b : tail - x.start ≡ x.many * suc x.own = omega arith in ap (λ (i : ℕ). mid_of x.start i s) b

  lent_long : length lent ≡ x.many * suc x.own
  lent_long = ap length lent_is ∙ length-take-le (x.many * suc x.own) (drop x.start s) (omega (arith, length-drop x.start s))

  -- its slots have room
  slots_room : end - x.from ≡ slots_size x
  slots_room = omega arith

  -- what loading it asks for
  pub run_asks : next_place x s place ≤ length texts → x.own + x.room < 500
      → (x.many * suc x.own ≤ length lent) × (length (mid_of x.from (end - x.from) w) ≡ slots_size x) × (place + 2 * last_bytes x.own x.many lent ≤ length texts) × (x.own + x.room < 1000)
  run_asks h k = (
    omega (arith, lent_long),
    mid_len x.from end w (omega arith) ∙ slots_room,
    omega (arith, ap (last_bytes x.own x.many) lent_is),
    omega arith,
  )

  -- and what it leaves
  pub run_loaded : (r : ℕ) (y : List ℕ) → (r ≡ place + 2 * last_bytes x.own x.many lent) × (y ≡ spread x.own x.room x.many lent (drop place texts))
      → (r ≡ next_place x s place) × (put_mid x.from (end - x.from) w y ≡ put_mid x.from (slots_size x) w (loaded_slots x s texts place))
  run_loaded r y l = (
    l.0 ∙ ap (λ (z : List ℕ). place + 2 * last_bytes x.own x.many z) lent_is,
    ap₂ (λ (i : ℕ) (z : List ℕ). put_mid x.from i w z) slots_room (l.1 ∙ ap (λ (z : List ℕ). spread x.own x.room x.many z (drop place texts)) lent_is),
  )
