-- A table with texts saved from a working copy of part of the tables: its region and the area are those of the tables together. Assumes nothing.
use Rattle.lists.proofs.Kit.{ℕ, zero, suc, ◌+◌, ◌-◌, ◌*◌, ◌≤◌, ◌<◌, ◌≡◌, refl, sym, ap, ap₂, ◌∙◌, subst⁻¹, cond, List, [], ◌++◌, map, arith, put_mid, mid_of, length, take, get_or, set, eqb, length-set}
use lib.Seq.{map-set_same}
use Rattle.slots.specs.Slots.{flat, sum}
use Rattle.slots.proofs.Parts.{get_d_length, parts_put}
use Rattle.writing.specs.declared.Kind.{Kind}
use Rattle.writing.specs.declared.Kind.TheVariants.{GroupContacts, IndividualContacts, Lines, Key, QuickTexts, Home, Channels, System, StatusTexts, Group, Individual, LineSlot, Last}
use Rattle.tables.specs.declared.limits.Limits.{Limits}
use Rattle.tables.specs.Allowed.{Allowed}
use Rattle.tables.specs.Layout.{placed_layout, count_size, line_width, lines_at}
use Rattle.tables.specs.Limits.{placed}
use Rattle.tables.specs.Heads.{line_own}
use Rattle.tables.specs.SharedLayout.{shared_layout, shared_regions, heads_size, line_heads_at}
use Rattle.tables.specs.Tables.{Tables}
use Rattle.tables.specs.Texts.{text_tables, texts_of, area}
use Rattle.shared_texts.specs.declared.Run.{Run}
use Rattle.shared_texts.specs.Shared.{text_runs, heads_in}
use Rattle.shared_texts.proofs.RunLaws.{run_heads}
use Rattle.shared_texts.proofs.SharedFrames.{shared_widths, shared_wide, shared_get}
use Rattle.shared_texts.proofs.WorkLaws.{all_moved, groups_stored, groups_worked, individuals_stored, individuals_worked, lines_stored, lines_worked}
use Rattle.working.specs.PartLoading.{count_of, order_of}
use Rattle.working.specs.PartSaving.{region_size, saved_region}
use Rattle.working.specs.Parts.{part_of, rejoined}
use Rattle.working.specs.Runs.{run_of, text_number, slots_end, heads_end}
use Rattle.working.specs.Saving.{own_size}
use Rattle.working.proofs.PartSaveLaws.{base}
use Rattle.working.proofs.PartSaveTables.{bounded}
use Rattle.working.proofs.WholeLaws.{mid_two}

-- the region of table n: the channels stand before the lines
abbrev pub region_number : ℕ → ℕ
region_number n = cond (eqb n 7) 12 (n + 4)

-- ---- where it stands

-- the region of table n starts at `at` and has m bytes
pub record RegionAt (lim : Limits) (a n at m : ℕ) : Type 0 where
  pub one_of : region_number n < 13
  pub start : at ≡ sum (take (region_number n) (shared_widths lim a))
  pub size : m ≡ get_or (shared_widths lim a) (region_number n) 0

region_at : (lim : Limits) (a n : ℕ) → n < 8 → RegionAt lim a n ((run_of lim n).start - count_of n) (region_size (run_of lim n) (count_of n) (order_of lim n))
region_at lim a zero h = record { one_of = omega arith; start = refl; size = refl }
region_at lim a (suc zero) h = record { one_of = omega arith; start = refl; size = refl }
region_at lim a (suc (suc zero)) h = record { one_of = omega arith; start = refl; size = refl }
region_at lim a (suc (suc (suc zero))) h = record { one_of = omega arith; start = refl; size = refl }
region_at lim a (suc (suc (suc (suc zero)))) h = record { one_of = omega arith; start = refl; size = refl }
region_at lim a (suc (suc (suc (suc (suc zero))))) h = record { one_of = omega arith; start = refl; size = refl }
region_at lim a (suc (suc (suc (suc (suc (suc zero)))))) h = record { one_of = omega arith; start = refl; size = refl }
region_at lim a (suc (suc (suc (suc (suc (suc (suc zero))))))) h = record { one_of = omega arith; start = omega arith; size = omega arith }
region_at lim a (suc (suc (suc (suc (suc (suc (suc (suc n)))))))) h = absurd (omega arith)

-- ---- what it is saved as

module _ (lim : Limits) (a : ℕ) (p : Tables) (ok : Allowed (placed lim) p) where
  -- the working copy, and the store of its tables
  abbrev w : List ℕ
  w = placed_layout lim p

  abbrev s : List ℕ
  s = shared_layout lim a p

  -- a count is the same in both
  count_same : (n : ℕ) → n < 8 → mid_of ((run_of lim n).from - count_of n) (count_of n) w ≡ mid_of ((run_of lim n).start - count_of n) (count_of n) s
  count_same zero h = refl
  count_same (suc zero) h = refl
  count_same (suc (suc zero)) h = refl
  count_same (suc (suc (suc zero))) h = refl
  count_same (suc (suc (suc (suc zero)))) h = refl
  count_same (suc (suc (suc (suc (suc zero))))) h = (groups_worked lim a p ok).0 ∙ sym (groups_stored lim a p ok).0
  count_same (suc (suc (suc (suc (suc (suc zero)))))) h = (individuals_worked lim a p ok).0 ∙ sym (individuals_stored lim a p ok).0
  count_same (suc (suc (suc (suc (suc (suc (suc zero))))))) h =
      let d : lines_at lim + count_size - count_size ≡ lines_at lim = omega arith in
      let e : line_heads_at lim + count_size - count_size ≡ line_heads_at lim = omega arith in
      ap (λ (i : ℕ). mid_of i count_size w) d ∙ (lines_worked lim a p ok).0.0 ∙ sym (ap (λ (i : ℕ). mid_of i count_size s) e ∙ (lines_stored lim a p ok).0.0)
  count_same (suc (suc (suc (suc (suc (suc (suc (suc n)))))))) h = absurd (omega arith)

  -- and so is an order
  order_same : (n : ℕ) → n < 8 → mid_of (slots_end (run_of lim n)) (order_of lim n) w ≡ mid_of (heads_end (run_of lim n)) (order_of lim n) s
  order_same zero h = refl
  order_same (suc zero) h = refl
  order_same (suc (suc zero)) h = refl
  order_same (suc (suc (suc zero))) h = refl
  order_same (suc (suc (suc (suc zero)))) h = refl
  order_same (suc (suc (suc (suc (suc zero))))) h = refl
  order_same (suc (suc (suc (suc (suc (suc zero)))))) h = refl
  order_same (suc (suc (suc (suc (suc (suc (suc zero))))))) h =
      let d : slots_end (run_of lim 7) ≡ lines_at lim + (count_size + lim.lines * line_width) = omega arith in
      let e : heads_end (run_of lim 7) ≡ line_heads_at lim + (count_size + lim.lines * suc line_own) = omega arith in
      ap (λ (i : ℕ). mid_of i lim.lines w) d ∙ (lines_worked lim a p ok).1 ∙ sym (ap (λ (i : ℕ). mid_of i lim.lines s) e ∙ (lines_stored lim a p ok).1)
  order_same (suc (suc (suc (suc (suc (suc (suc (suc n)))))))) h = absurd (omega arith)

  -- three runs of a region, one behind another
  three_runs : (x : Run) (i j : ℕ) → i ≤ x.start → mid_of (x.start - i) i s ++ (heads_in s x ++ mid_of (heads_end x) j s) ≡ mid_of (x.start - i) (region_size x i j) s
  three_runs x i j h =
      let e : x.start - i + i ≡ x.start = omega arith in
      sym (mid_two (x.start - i) i (own_size x + j) s ∙ ap (λ (b : ℕ). mid_of (x.start - i) i s ++ mid_of b (own_size x + j) s) e ∙ ap (λ (l : List ℕ). mid_of (x.start - i) i s ++ l) (mid_two x.start (own_size x) j s))

  -- REGION-IS: what is saved of the working copy is the region of its table
  pub region_is : (n : ℕ) → n < 8 → saved_region (run_of lim n) (count_of n) (order_of lim n) w ≡ get_or (shared_regions lim a p) (region_number n) []
  region_is n h =
      let r = region_at lim a n h in
      (λ i. count_same n h i ++ (run_heads s w (text_runs lim) (text_tables p) (all_moved lim a p ok) n h i ++ order_same n h i))
      ∙ three_runs (run_of lim n) (count_of n) (order_of lim n) (bounded lim n h).start
      ∙ shared_get lim a p ok (region_number n) (more (region_number n) r.one_of) _ _ r.start r.size
    where
      more : (i : ℕ) → i < 13 → i < 15
      more i h = omega arith

-- ---- the store with it

-- p's table n, put among those of t, makes r
pub record Joins (lim : Limits) (a : ℕ) (t p r : Tables) (n : ℕ) : Type 0 where
  pub texts : text_tables r ≡ set (text_tables t) n (get_or (text_tables p) n [])
  pub regions : set (set (shared_regions lim a t) (region_number n) (get_or (shared_regions lim a p) (region_number n) [])) 13 (area a (texts_of r)) ≡ shared_regions lim a r

-- as the table of a kind of the copy does
pub kind_joins : (lim : Limits) (a : ℕ) (k : Kind) (t u : Tables) → text_number k < 8 → Joins lim a (base t u) (part_of k u) (rejoined k t u) (text_number k)
kind_joins lim a GroupContacts t u h = record { texts = refl; regions = refl }
kind_joins lim a IndividualContacts t u h = record { texts = refl; regions = refl }
kind_joins lim a Lines t u h = record { texts = refl; regions = refl }
kind_joins lim a Key t u h = absurd (omega arith)
kind_joins lim a QuickTexts t u h = record { texts = refl; regions = refl }
kind_joins lim a Home t u h = absurd (omega arith)
kind_joins lim a Channels t u h = absurd (omega arith)
kind_joins lim a System t u h = absurd (omega arith)
kind_joins lim a StatusTexts t u h = record { texts = refl; regions = refl }
kind_joins lim a Group t u h = record { texts = refl; regions = refl }
kind_joins lim a Individual t u h = record { texts = refl; regions = refl }
kind_joins lim a LineSlot t u h = record { texts = refl; regions = refl }
kind_joins lim a Last t u h = absurd (omega arith)

-- two regions of a store were put
two_put : (xs : List (List ℕ)) (ws : List ℕ) → map length xs ≡ ws → (i j : ℕ) (y z : List ℕ) → i < length xs → j < length xs → length y ≡ get_or ws i 0 → (at m at' m' : ℕ) → at ≡ sum (take i ws) → m ≡ get_or ws i 0 → at' ≡ sum (take j ws) → m' ≡ get_or ws j 0
    → put_mid at' m' (put_mid at m (flat xs) y) z ≡ flat (set (set xs i y) j z)
two_put xs ws e i j y z h l d at m at' m' p q p' q' =
    let f : map length (set xs i y) ≡ ws = map-set_same length xs i y [] (d ∙ sym (get_d_length xs i ∙ ap (λ (v : List ℕ). get_or v i 0) e)) ∙ e in
    ap₂ (λ (b c : ℕ). put_mid at' m' (put_mid b c (flat xs) y) z) p q
    ∙ ap (λ (v : List ℕ). put_mid at' m' v z) (parts_put xs ws e i h y)
    ∙ ap₂ (λ (b c : ℕ). put_mid b c (flat (set xs i y)) z) p' q'
    ∙ parts_put (set xs i y) ws f j (subst⁻¹ (λ (v : ℕ). j < v) (length-set xs i y) l) z

module _ (lim : Limits) (a : ℕ) (t p r : Tables) (n : ℕ) (h : n < 8) (ok : Allowed (placed lim) t) (part : Allowed (placed lim) p) (joins : Joins lim a t p r n) where
  -- FRAME: a store with table n and the area put is that of the tables together
  pub joins_put : put_mid (heads_size lim) a (put_mid ((run_of lim n).start - count_of n) (region_size (run_of lim n) (count_of n) (order_of lim n)) (shared_layout lim a t) (get_or (shared_regions lim a p) (region_number n) [])) (area a (texts_of r)) ≡ shared_layout lim a r
  unfolding shared_layout
  joins_put =
      let b = region_at lim a n h in
      let e : heads_size lim ≡ sum (take 13 (shared_widths lim a)) = omega arith in
      two_put (shared_regions lim a t) (shared_widths lim a) (shared_wide lim a t ok) (region_number n) 13 (get_or (shared_regions lim a p) (region_number n) []) (area a (texts_of r)) (more (region_number n) b.one_of) (omega arith)
      (get_d_length (shared_regions lim a p) (region_number n) ∙ ap (λ (v : List ℕ). get_or v (region_number n) 0) (shared_wide lim a p part)) _ _ (heads_size lim) a b.start b.size e refl
      ∙ ap flat joins.regions
    where
      more : (i : ℕ) → i < 13 → i < 15
      more i h = omega arith
