-- The texts of a table counted slot by slot, and those of the tables one by one. Assumes nothing.
use Rattle.lists.proofs.Kit.{ℕ, suc, ◌+◌, ◌-◌, ◌*◌, ◌/◌, ◌≤◌, ◌<◌, ◌≡◌, ap, ◌∙◌, List, map, mul-le-mul_right, zero-mul, sub-zero, arith, mid_of, mid_len, length, take, drop}
use native.Mathlib.Nat.{one-mul}
use Rattle.slots.specs.Slots.{sum}
use Rattle.tables.specs.declared.limits.Limits.{Limits}
use Rattle.shared_texts.specs.declared.Run.{Run}
use Rattle.shared_texts.specs.Moves.{placed_units, slots_units, run_sum}
use Rattle.shared_texts.specs.Regions.{last_bytes}
use Rattle.shared_texts.specs.Shared.{text_runs, no_run, run_units}
use Rattle.working.specs.Loading.{UnitsAre}
use Rattle.working.specs.Saving.{SumIs, TextEnds}
use Rattle.working.specs.Runs.{run_of, slots_end, heads_end, Small}
use Rattle.working.proofs.SlotLaws.{slot_next, slot_stands, slot_used, units_step}
use Rattle.working.proofs.WalkLaws.{sum_more}

-- the first i slots are counted
pub record Counting (slots : List ℕ) (own room n sum at i : ℕ) : Type 0 where
  pub inside : i ≤ n
  pub at_is : at ≡ i * (own + room)
  pub long : n * (own + room) ≤ length slots
  pub narrow : own + room < 500
  pub whole : room ≡ room / 2 * 2
  pub small : sum ≤ 500 * i
  pub counted : sum + 2 * placed_units own room (n - i) (drop at slots) ≡ 2 * placed_units own room n slots

-- at the start none is
pub count_start : (slots : List ℕ) (own room n : ℕ) → n * (own + room) ≤ length slots → own + room < 500 → room ≡ room / 2 * 2 → Counting slots own room n 0 0 0
count_start slots own room n l s e = record {
  inside = omega arith;
  at_is = omega (arith, zero-mul (own + room));
  long = l;
  narrow = s;
  whole = e;
  small = omega arith;
  counted = omega (arith, ap (λ (j : ℕ). placed_units own room j slots) (sub-zero n));
}

module _ {slots : List ℕ} {own room n sum at i : ℕ} (v : Counting slots own room n sum at i) where
  -- a next slot stands there
  pub count_slot : i < n → at + own + room ≤ length slots
  count_slot h = slot_stands slots own room i n at h v.at_is v.long

  -- one slot more
  pub count_more : (r : ℕ) → i < n → TextEnds (mid_of (at + own) (at + own + room - (at + own)) slots) r → Counting slots own room n (sum + r) (at + own + room) (i + 1)
  count_more r h f =
      let u = slot_used slots own room at r v.whole (count_slot h) f in
      record {
        inside = omega arith;
        at_is = omega (arith, slot_next i (own + room), v.at_is);
        long = v.long;
        narrow = v.narrow;
        whole = v.whole;
        small = omega (arith, u.1, v.small, v.narrow);
        counted = omega (arith, units_step slots own room i n at h, u.0, v.counted);
      }

  -- at the end all are
  pub count_end : n ≤ i → (sum ≡ 2 * placed_units own room n slots) × (sum ≤ 500 * n)
  count_end h =
      let z : n - i ≡ 0 = omega arith in
      (omega (arith, v.counted, ap (λ (j : ℕ). placed_units own room j (drop at slots)) z), omega (arith, v.small, v.inside))

-- ---- tables

-- a table's slots are those that are lent
pub run_counted : (w : List ℕ) (x : Run) (end r : ℕ) → end ≡ slots_end x → x.many ≤ 255 → (r ≡ 2 * placed_units x.own x.room x.many (mid_of x.from (end - x.from) w)) × (r ≤ 500 * x.many)
    → (r ≡ run_sum w x) × (r ≤ 127500)
run_counted w x end r i h e =
    let b : end - x.from ≡ x.many * (x.own + x.room) = omega arith in
    (e.0 ∙ ap (λ (j : ℕ). 2 * placed_units x.own x.room x.many (mid_of x.from j w)) b, omega (arith, e.1))

-- and so are its heads, of which there are enough
module _ (s : List ℕ) (x : Run) (end n : ℕ) (i : end ≡ heads_end x) (p : Small x) (l : heads_end x ≤ length s) (h : n ≤ x.many) where
  pub heads_lent : (n * suc x.own ≤ length (mid_of x.start (end - x.start) s)) × (x.own < 1000) × (n < 1000)
  heads_lent =
      let m : n * suc x.own ≤ x.many * suc x.own = mul-le-mul_right (suc x.own) h in
      (omega (arith, mid_len x.start end s (omega arith)), omega (arith, p.narrow), omega (arith, p.few))

  pub heads_counted : (r : ℕ) → (r ≡ last_bytes x.own n (mid_of x.start (end - x.start) s)) × (r ≤ 255 * n) → (r ≡ run_units s n x) × (r ≤ 65025)
  heads_counted r e =
      let b : end - x.start ≡ x.many * suc x.own = omega arith in
      (e.0 ∙ ap (λ (j : ℕ). last_bytes x.own n (mid_of x.start j s)) b, omega (arith, e.1, p.few))

-- the first k tables are summed, c times what f says of each, which is at most b
pub record Summing (lim : Limits) (f : Run → ℕ) (c b r k : ℕ) : Type 0 where
  pub inside : k ≤ 8
  pub small : r ≤ b * k
  pub counted : r ≡ c * sum (map f (take k (text_runs lim)))

-- none is
pub sum_start : (lim : Limits) (f : Run → ℕ) (c b : ℕ) → Summing lim f c b 0 0
sum_start lim f c b = record { inside = omega arith; small = omega arith; counted = omega arith }

module _ {lim : Limits} {f : Run → ℕ} {c b r k : ℕ} (v : Summing lim f c b r k) where
  -- one more
  pub sum_step : (x : Run) (n : ℕ) → k < 8 → x ≡ run_of lim k → n ≡ c * f x → n ≤ b → Summing lim f c b (r + n) (k + 1)
  sum_step x n h e d l = record {
    inside = omega arith;
    small = omega (arith, v.small);
    counted = omega (arith, ap (λ (j : ℕ). c * j) (sum_more f (text_runs lim) k no_run h), ap (λ (y : Run). c * f y) e, v.counted);
  }

  -- all are
  pub sum_end : 8 ≤ k → (r ≡ c * sum (map f (text_runs lim))) × (r ≤ b * 8)
  sum_end h =
      let e : k ≡ 8 = omega (arith, v.inside) in
      (v.counted ∙ ap (λ (j : ℕ). c * sum (map f (take j (text_runs lim)))) e, omega (arith, v.small, ap (λ (j : ℕ). b * j) e))

-- all units that the heads count
pub units_end : {lim : Limits} (s : List ℕ) {r k : ℕ} → Summing lim (λ x. run_units s x.many x) 1 65025 r k → 8 ≤ k → UnitsAre lim s r × (r ≤ 520200)
unfolding UnitsAre
units_end s v h = let (e, l) = sum_end v h in (e ∙ one-mul _, l)

-- all bytes that the texts of a working copy take
pub bytes_end : {lim : Limits} (w : List ℕ) {r k : ℕ} → Summing lim (slots_units w) 2 127500 r k → 8 ≤ k → SumIs lim w r
unfolding SumIs
bytes_end w v h = (sum_end v h).0
