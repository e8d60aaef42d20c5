-- Saving one table of a working copy of part of the tables: where its region and its texts stand, and what is left of the store. Assumes nothing.
use Rattle.lists.proofs.Kit.{ℕ, zero, suc, ◌+◌, ◌-◌, ◌*◌, ◌≤◌, ◌<◌, ◌≡◌, refl, sym, ap, ap₂, ◌∙◌, subst⁻¹, List, ◌++◌, arith, put_mid, mid_of, length, drop, get_or, map, length-append, length-drop, length-take-le}
use Rattle.slots.specs.Slots.{pad, sum}
use Rattle.tables.specs.declared.limits.Limits.{Limits}
use Rattle.tables.specs.Layout.{used_size}
use Rattle.tables.specs.SharedLayout.{heads_size}
use Rattle.shared_texts.specs.declared.Run.{Run}
use Rattle.shared_texts.specs.Shared.{text_runs, no_run, run_units, slots_in, counted_before}
use Rattle.working.specs.Loading.{UnitsAre}
use Rattle.working.specs.PartLoading.{count_of, order_of}
use Rattle.working.specs.PartSaving.{region_size, saved_region, joined_texts, units_ahead, units_through, units_all, kept_size, RegionSaved, TableSaved}
use Rattle.working.specs.Runs.{run_of, slots_end, heads_end, Small, Inside}
use Rattle.working.specs.Saving.{own_size, gathered_in, next_text}
use Rattle.working.proofs.LoadedLaws.{area_lent}
use Rattle.working.proofs.PartMoves.{mid_behind, region_put}
use Rattle.working.proofs.SaveTables.{heads_length}
use Rattle.working.proofs.StepLaws.{behind}
use Rattle.working.proofs.WalkLaws.{sum_more, sum_part}

-- ---- its region

-- table x has room in both forms, with i bytes before it and j behind it
pub record Bounded (lim : Limits) (x : Run) (i j : ℕ) : Type 0 where
  pub start : i ≤ x.start
  pub from : i ≤ x.from
  pub heads : heads_end x + j ≤ heads_size lim
  pub slots : slots_end x + j ≤ used_size lim

-- table k has, with its count and its order
pub bounded : (lim : Limits) (k : ℕ) → k < 8 → Bounded lim (run_of lim k) (count_of k) (order_of lim k)
bounded lim zero h = omega arith
bounded lim (suc zero) h = omega arith
bounded lim (suc (suc zero)) h = omega arith
bounded lim (suc (suc (suc zero))) h = omega arith
bounded lim (suc (suc (suc (suc zero)))) h = omega arith
bounded lim (suc (suc (suc (suc (suc zero))))) h = omega arith
bounded lim (suc (suc (suc (suc (suc (suc zero)))))) h = omega arith
bounded lim (suc (suc (suc (suc (suc (suc (suc zero))))))) h = omega arith
bounded lim (suc (suc (suc (suc (suc (suc (suc (suc k)))))))) h = absurd (omega arith)

-- it stands with its count alone
pub bounded_count : (lim : Limits) (k : ℕ) (x : Run) (i : ℕ) → k < 8 → x ≡ run_of lim k → i ≡ count_of k → (i ≤ x.start) × (i ≤ x.from)
bounded_count lim k x i h e d =
    let b = bounded lim k h in
    (omega (arith, b.start, ap (λ (y : Run). y.start) e), omega (arith, b.from, ap (λ (y : Run). y.from) e))

module _ (lim : Limits) (k : ℕ) (x : Run) (i j : ℕ) (h : k < 8) (e : x ≡ run_of lim k) (d : i ≡ count_of k) (f : j ≡ order_of lim k) where
  pub bounded_as : Bounded lim x i j
  bounded_as = subst⁻¹ (λ (y : Run). Bounded lim y i j) e (subst⁻¹ (λ (n : ℕ). Bounded lim (run_of lim k) n j) d (subst⁻¹ (Bounded lim (run_of lim k) (count_of k)) f (bounded lim k h)))

  module _ (s w : List ℕ) (o : heads_size lim ≤ length s) (u : used_size lim ≤ length w) where
    heads_long : length (gathered_in x w) ≡ own_size x
    heads_long =
        let b = bounded_as.slots in
        heads_length x.own x.room x.many (slots_in w x) (omega (arith, length-take-le (x.many * (x.own + x.room)) (drop x.from w) (omega (arith, length-drop x.from w))))

    -- REGION-SAVED: count, heads and order were put, one behind another
    pub region_saved : (s₁ s₂ s₃ : List ℕ) (to from : ℕ) → to ≡ heads_end x → from ≡ slots_end x → s₁ ≡ put_mid (x.start - i) i s (mid_of (x.from - i) i w) → s₂ ≡ put_mid x.start (own_size x) s₁ (gathered_in x w) → s₃ ≡ put_mid to j s₂ (mid_of from j w)
        → RegionSaved lim k w s s₃
    unfolding RegionSaved
    region_saved s₁ s₂ s₃ to from y z p q r =
        let b = bounded_as in
        region_put x s w s₁ s₂ s₃ i j b.start b.from (omega (arith, b.heads)) (omega (arith, b.slots)) heads_long p q (r ∙ ap₂ (λ (m n : ℕ). put_mid m j s₂ (mid_of n j w)) y z)
        ∙ ap (λ (y : Run). put_mid (y.start - i) (region_size y i j) s (saved_region y i j w)) e
        ∙ ap₂ (λ (m n : ℕ). put_mid ((run_of lim k).start - m) (region_size (run_of lim k) m n) s (saved_region (run_of lim k) m n w)) d f

    -- it is as long as its place
    pub region_long : length (saved_region x i j w) ≡ region_size x i j
    region_long =
        let b = bounded_as in
        let c : List ℕ = mid_of (x.from - i) i w in
        let y : List ℕ = mid_of (slots_end x) j w in
        let cl : length c ≡ i = length-take-le i (drop (x.from - i) w) (omega (arith, length-drop (x.from - i) w, b.slots, b.from)) in
        let yl : length y ≡ j = length-take-le j (drop (slots_end x) w) (omega (arith, length-drop (slots_end x) w, b.slots)) in
        omega (arith, length-append c (gathered_in x w ++ y), length-append (gathered_in x w) y, heads_long)

    -- and leaves the area
    pub area_stays : (n : ℕ) → mid_of (heads_size lim) n (put_mid (x.start - i) (region_size x i j) s (saved_region x i j w)) ≡ mid_of (heads_size lim) n s
    area_stays n =
        let b = bounded_as in
        mid_behind s (saved_region x i j w) (x.start - i) (region_size x i j) (omega (arith, b.heads)) region_long (heads_size lim) n (omega (arith, b.heads, b.start))

-- ---- its texts

-- what the heads before it count, and with its own, and all
pub record Counts (lim : Limits) (s : List ℕ) (k p q r : ℕ) : Type 0 where
  pub before : p ≡ units_ahead lim s k
  pub with_own : q ≡ units_through lim s k
  pub all : r ≡ units_all lim s

-- the heads of a table count what they do behind those before it
own_behind : (s : List ℕ) (runs : List Run) (k r : ℕ) → counted_before s runs k 0 + run_units s r (get_or runs k no_run) ≡ counted_before s runs k r
own_behind s runs k r = omega arith

-- as they were counted
pub counts_of : (lim : Limits) (s : List ℕ) (k p m r : ℕ) (x : Run) → x ≡ run_of lim k → p ≡ counted_before s (text_runs lim) k 0 → m ≡ run_units s x.many x → UnitsAre lim s r → Counts lim s k p (p + m) r
unfolding units_ahead units_through units_all UnitsAre
counts_of lim s k p m r x e b w u = record {
  before = b;
  with_own = ap₂ (λ (i j : ℕ). i + j) b (w ∙ ap (λ (y : Run). run_units s y.many y) e) ∙ own_behind s (text_runs lim) k (run_of lim k).many;
  all = u;
}

-- each table has some
rises : (s : List ℕ) (runs : List Run) (k : ℕ) → k < length runs
    → (counted_before s runs k 0 ≤ counted_before s runs k (get_or runs k no_run).many) × (counted_before s runs k (get_or runs k no_run).many ≤ sum (map (λ x. run_units s x.many x) runs))
rises s runs k h =
    let f : Run → ℕ = λ (x : Run). run_units s x.many x in
    (omega arith, omega (arith, sum_more f runs k no_run h, sum_part f runs (k + 1)))

units_rise : (lim : Limits) (s : List ℕ) (k : ℕ) → k < 8 → (units_ahead lim s k ≤ units_through lim s k) × (units_through lim s k ≤ units_all lim s)
unfolding units_ahead units_through units_all
units_rise lim s k h = rises s (text_runs lim) k h

pub counts_rise : {lim : Limits} {s : List ℕ} {k p q r : ℕ} → Counts lim s k p q r → k < 8 → (p ≤ q) × (q ≤ r)
counts_rise {lim} {s} {k} {p} {q} {r} c h = let (a, b) = units_rise lim s k h in (omega (arith, c.before, c.with_own), omega (arith, c.with_own, c.all))

module _ (lim : Limits) (a k : ℕ) (s w v : List ℕ) (p q r : ℕ) (c : Counts lim s k p q r) where
  -- the old texts have no room in the area
  pub no_area : a < r * 2 → TableSaved lim a k w s v
  unfolding TableSaved
  no_area l = λ i. absurd (omega (arith, c.all))

  -- what is kept has no room in the working copy
  pub no_spare : (n used : ℕ) → n ≡ lim.size → used ≡ used_size lim → r * 2 ≤ a → n - used < r * 2 - q * 2 → TableSaved lim a k w s v
  unfolding TableSaved
  no_spare n used d e l o = λ i j. absurd (omega arith)

-- what joining the texts asks for
pub join_asks : {lim : Limits} {s : List ℕ} {k p q r : ℕ} → Counts lim s k p q r → k < 8 → (a start used : ℕ) (x : Run) (s₁ w : List ℕ) → Small x → Inside lim x → used ≡ used_size lim → used ≤ length w → start ≡ heads_size lim → start + a ≤ length s₁
    → r * 2 ≤ a → r * 2 - q * 2 ≤ length w - used
    → Small x × (slots_end x ≤ used) × (used + (r * 2 - q * 2) ≤ length w) × (p * 2 ≤ length (mid_of start (start + a - start) s₁)) × (q * 2 + (r * 2 - q * 2) ≤ length (mid_of start (start + a - start) s₁))
join_asks {lim} {s} {k} {p} {q} {r} c h a start used x s₁ w small i d l e o n m =
    let (b, g) = counts_rise c h in
    let al : length (mid_of start (start + a - start) s₁) ≡ a = area_lent lim a start s₁ e o in
    (small, omega (arith, i.slots), omega arith, omega arith, omega arith)

-- TABLE-SAVED: the region was saved, and the texts were joined
module _ (lim : Limits) (a k : ℕ) (x : Run) (e : x ≡ run_of lim k) (h : k < 8) (s w s₁ y : List ℕ) (p q r start : ℕ) (c : Counts lim s k p q r) where
  -- the area as it is lent, after the region was saved
  lent_is : start ≡ heads_size lim → start + a ≤ length s → used_size lim ≤ length w → RegionSaved lim k w s s₁ → mid_of start (start + a - start) s₁ ≡ mid_of (heads_size lim) a s
  unfolding RegionSaved
  lent_is d l u g = ap₂ (λ (i j : ℕ). mid_of i j s₁) d (behind start a) ∙ ap (mid_of (heads_size lim) a) g ∙ area_stays lim k (run_of lim k) (count_of k) (order_of lim k) h refl refl refl s w (omega arith) u a

  pub table_saved : start ≡ heads_size lim → start + a ≤ length s → length s₁ ≡ length s → used_size lim ≤ length w → RegionSaved lim k w s s₁
      → (next_text x w (p * 2) + (r * 2 - q * 2) ≤ length (mid_of start (start + a - start) s₁) → y ≡ pad 0 (length (mid_of start (start + a - start) s₁)) (joined_texts x w (p * 2) (q * 2) (r * 2 - q * 2) (mid_of start (start + a - start) s₁)))
      → TableSaved lim a k w s (put_mid start (start + a - start) s₁ y)
  unfolding TableSaved RegionSaved
  table_saved d l o u g f = λ i j n s' g'.
      let al : length (mid_of start (start + a - start) s₁) ≡ a = area_lent lim a start s₁ d (subst⁻¹ (λ (i : ℕ). start + a ≤ i) o l) in
      let z : List ℕ = mid_of (heads_size lim) a s in
      let m : mid_of start (start + a - start) s₁ ≡ z = lent_is d l u g in
      let t : next_text x w (p * 2) + (r * 2 - q * 2) ≡ next_text (run_of lim k) w (units_ahead lim s k * 2) + kept_size lim s k
      = ap (λ (z : Run). next_text z w (p * 2) + (r * 2 - q * 2)) e ∙ (λ i. next_text (run_of lim k) w (c.before i * 2) + (c.all i * 2 - c.with_own i * 2)) in
      let v : y ≡ pad 0 a (joined_texts (run_of lim k) w (units_ahead lim s k * 2) (units_through lim s k * 2) (kept_size lim s k) z)
      = f (subst⁻¹ (λ (i : ℕ). next_text x w (p * 2) + (r * 2 - q * 2) ≤ i) al (subst⁻¹ (λ (i : ℕ). i ≤ a) t n))
      ∙ ap₂ (λ (i : ℕ) (z : List ℕ). pad 0 i (joined_texts x w (p * 2) (q * 2) (r * 2 - q * 2) z)) al m
      ∙ ap (λ (j : Run). pad 0 a (joined_texts j w (p * 2) (q * 2) (r * 2 - q * 2) z)) e
      ∙ (λ i. pad 0 a (joined_texts (run_of lim k) w (c.before i * 2) (c.with_own i * 2) (c.all i * 2 - c.with_own i * 2) z)) in
      (λ i. put_mid (d i) (behind start a i) ((g ∙ sym g') i) (v i))
