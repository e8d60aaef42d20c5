-- What saving a working copy of part of the tables leaves is the store of the tables together. Assumes nothing.
use Rattle.lists.proofs.Kit.{ℕ, ◌+◌, ◌-◌, ◌*◌, ◌≤◌, ◌<◌, ◌≡◌, refl, sym, ap, ap₂, ◌∙◌, subst, subst⁻¹, List, [], ◌∷◌, ◌++◌, Option, arith, put_mid, mid_of, take, get_or, take_all}
use denote.Enum.Declared.{tag_of}
use types.Run.{OneOf, miss}
use Rattle.slots.specs.Slots.{pad}
use Rattle.writing.specs.declared.Kind.{Kind}
use Rattle.writing.specs.declared.Kind.TheVariants.{Channels}
use Rattle.writing.specs.Settings.{Text}
use Rattle.writing.specs.contracts.Kind.{the_type}
use Rattle.tables.specs.declared.limits.Limits.{Limits}
use Rattle.tables.specs.Allowed.{Allowed}
use Rattle.tables.specs.Layout.{placed_layout, used_size, quick_at, channels_at, channels_size}
use Rattle.tables.specs.Limits.{placed}
use Rattle.tables.specs.SharedLayout.{shared_layout, heads_size, shared_channels_at}
use Rattle.tables.specs.Tables.{Tables}
use Rattle.tables.specs.Texts.{text_tables, texts_in, texts_of, text_sum, present, units_of, area}
use Rattle.shared_texts.specs.Moves.{slots_units}
use Rattle.shared_texts.specs.Shared.{text_runs, SharedOk}
use Rattle.shared_texts.proofs.RunLaws.{run_placed}
use Rattle.shared_texts.proofs.SharedFrames.{shared_get}
use Rattle.shared_texts.proofs.WorkLaws.{all_moved, row_place}
use Rattle.working.specs.Loading.{UnitsAre}
use Rattle.working.specs.PartLoading.{count_of, order_of}
use Rattle.working.specs.PartSaving.{region_size, joined_texts, units_ahead, units_through, units_all, kept_size, RegionSaved, TableSaved}
use Rattle.working.specs.Parts.{part_of, rejoined, PartSaved}
use Rattle.working.specs.Runs.{run_of, text_number}
use Rattle.working.specs.Saving.{texts_in_slots, next_text}
use Rattle.working.proofs.LoadedLaws.{texts_counted}
use Rattle.working.proofs.PartAreas.{bytes_of, area_set, sum_set, run_gathered, run_few}
use Rattle.working.proofs.PartJoins.{Joins, kind_joins, region_is, joins_put}
use Rattle.working.proofs.PartSaveLaws.{base, part_allowed, base_ok, fixed_saved, kind_fixed, channels_saved}

-- ---- what the heads of a store count

-- two bytes for each unit
twice : (x y : ℕ) → x ≡ y + 0 → x * 2 ≡ 2 * y
twice x y e = omega arith

twice_more : (x y z p : ℕ) → x ≡ y + z → p ≡ 2 * y → x * 2 ≡ p + 2 * z
twice_more x y z p e d = omega arith

module _ (lim : Limits) (a : ℕ) (t : Tables) (ok : SharedOk lim a t) (n : ℕ) (h : n < 8) where
  -- the store
  abbrev s : List ℕ
  s = shared_layout lim a t

  ahead_is : units_ahead lim s n * 2 ≡ 2 * units_of (texts_in (take n (text_tables t)))
  unfolding units_ahead
  ahead_is = twice _ (units_of (texts_in (take n (text_tables t)))) (row_place lim a t ok.allowed n 0 h (omega arith))

  through_is : units_through lim s n * 2 ≡ units_ahead lim s n * 2 + 2 * units_of (present (get_or (text_tables t) n []))
  unfolding units_through
  through_is =
      let f = run_few s (placed_layout lim t) (text_runs lim) (text_tables t) (all_moved lim a t ok.allowed) n h in
      twice_more _ (units_of (texts_in (take n (text_tables t)))) (units_of (present (get_or (text_tables t) n []))) (units_ahead lim s n * 2)
      (row_place lim a t ok.allowed n (run_of lim n).many h (omega arith) ∙ ap (λ (x : List (Option Text)). units_of (texts_in (take n (text_tables t))) + units_of (present x)) (take_all (run_of lim n).many (get_or (text_tables t) n []) f)) ahead_is

  all_is : units_all lim s * 2 ≡ text_sum t
  unfolding units_all UnitsAre
  all_is = texts_counted lim a s (units_all lim s) t refl ok refl

-- ---- a table with texts

module _ (lim : Limits) (a : ℕ) (t p r : Tables) (n : ℕ) (h : n < 8) (ok : SharedOk lim a t) (part : Allowed (placed lim) p) (after : SharedOk lim a r) (joins : Joins lim a t p r n) where
  -- its texts
  abbrev new : List (Option Text)
  new = get_or (text_tables p) n []

  -- they have room among the others
  new_room : next_text (run_of lim n) (placed_layout lim p) (units_ahead lim (shared_layout lim a t) n * 2) + kept_size lim (shared_layout lim a t) n ≤ a
  new_room =
      let u : slots_units (placed_layout lim p) (run_of lim n) ≡ units_of (present new) = run_placed (shared_layout lim a p) (placed_layout lim p) (text_runs lim) (text_tables p) (all_moved lim a p part) n h in
      let e : units_ahead lim (shared_layout lim a t) n * 2 + 2 * slots_units (placed_layout lim p) (run_of lim n) + kept_size lim (shared_layout lim a t) n ≡ text_sum r
      = ap (λ (i : ℕ). units_ahead lim (shared_layout lim a t) n * 2 + 2 * i + kept_size lim (shared_layout lim a t) n) u
      ∙ sum_set a (text_tables t) n new h _ _ _ (ahead_is lim a t ok n h) (through_is lim a t ok n h) (all_is lim a t ok n h)
      ∙ ap (λ (x : List (List (Option Text))). 2 * units_of (texts_in x)) (sym joins.texts) in
      subst⁻¹ (λ (i : ℕ). i ≤ a) e after.room

  -- the area with them is that of the tables together
  new_area : pad 0 a (joined_texts (run_of lim n) (placed_layout lim p) (units_ahead lim (shared_layout lim a t) n * 2) (units_through lim (shared_layout lim a t) n * 2) (kept_size lim (shared_layout lim a t) n) (mid_of (heads_size lim) a (shared_layout lim a t))) ≡ area a (texts_of r)
  new_area =
      let i : ℕ = units_ahead lim (shared_layout lim a t) n * 2 in
      let j : ℕ = units_through lim (shared_layout lim a t) n * 2 in
      let m : ℕ = kept_size lim (shared_layout lim a t) n in
      let g : texts_in_slots (placed_layout lim p) (run_of lim n) ≡ bytes_of (present new) = run_gathered (shared_layout lim a p) (placed_layout lim p) (text_runs lim) (text_tables p) (all_moved lim a p part) n h in
      let z : mid_of (heads_size lim) a (shared_layout lim a t) ≡ area a (texts_of t) = shared_get lim a t ok.allowed 13 (omega arith) (heads_size lim) a (omega arith) refl in
      ap₂ (λ (x y : List ℕ). pad 0 a (take i x ++ (y ++ mid_of j m x))) z g
      ∙ area_set a (text_tables t) n new h _ _ _ (ahead_is lim a t ok n h) (through_is lim a t ok n h) (all_is lim a t ok n h) (subst⁻¹ (λ (b : ℕ). b ≤ a) (all_is lim a t ok n h) ok.room)
      ∙ ap (λ (x : List (List (Option Text))). area a (texts_in x)) (sym joins.texts)

  -- TABLE-JOINED: the store that was saved is that of the tables together
  pub table_joined : (v : List ℕ) → used_size lim + a ≤ lim.size → TableSaved lim a n (placed_layout lim p) (shared_layout lim a t) v → v ≡ shared_layout lim a r
  unfolding TableSaved RegionSaved
  table_joined v u f =
      f (subst⁻¹ (λ (b : ℕ). b ≤ a) (all_is lim a t ok n h) ok.room) u new_room _ refl
      ∙ ap₂ (λ (x y : List ℕ). put_mid (heads_size lim) a (put_mid ((run_of lim n).start - count_of n) (region_size (run_of lim n) (count_of n) (order_of lim n)) (shared_layout lim a t) x) y) (region_is lim a p part n h) new_area
      ∙ joins_put lim a t p r n h ok.allowed part joins

-- ---- by kind

-- all kinds but channels, by their numbers
abbrev no_channels : List ℕ
no_channels = 0 ∷ 1 ∷ 2 ∷ 3 ∷ 4 ∷ 5 ∷ 7 ∷ 8 ∷ 9 ∷ 10 ∷ 11 ∷ 12 ∷ []

pub not_channels : (k : Kind) → OneOf no_channels (tag_of the_type k) → k ≡ Channels → ⊥
not_channels k h e = miss no_channels 6 tt (subst (λ (x : Kind). OneOf no_channels (tag_of the_type x)) e h)

module _ (lim : Limits) (a : ℕ) (w s s₁ v : List ℕ) (e : s₁ ≡ put_mid 0 quick_at s (mid_of 0 quick_at w)) where
  -- hash, key, home and system were copied
  copied : (k : Kind) (t u : Tables) → SharedOk lim a t → SharedOk lim a (rejoined k t u) → s ≡ shared_layout lim a t → w ≡ placed_layout lim (part_of k u) → s₁ ≡ shared_layout lim a (base t u)
  copied k t u ok after b d = e ∙ ap₂ (λ (x y : List ℕ). put_mid 0 quick_at x (mid_of 0 quick_at y)) b d ∙ fixed_saved lim a k t u ok after

  -- PART-FIXED: the kind is one of theirs
  pub part_fixed : (k : Kind) → 8 ≤ text_number k → (k ≡ Channels → ⊥) → v ≡ s₁ → PartSaved lim a k w s v
  part_fixed k h n f l o i t u roomy shared ok after b d = f ∙ copied k t u ok after b d ∙ ap (shared_layout lim a) (kind_fixed k t u h n)

  -- PART-CHANNELS: or the channels, which were copied too
  pub part_channels : v ≡ put_mid shared_channels_at (channels_size lim) s₁ (mid_of channels_at (channels_size lim) w) → PartSaved lim a Channels w s v
  part_channels f l o i t u roomy shared ok after b d =
      f ∙ ap₂ (λ (x y : List ℕ). put_mid shared_channels_at (channels_size lim) x (mid_of channels_at (channels_size lim) y)) (copied Channels t u ok after b d) d
      ∙ channels_saved lim a t u ok after

  -- PART-TABLE: or it has texts
  pub part_table : (k : Kind) (n : ℕ) → n ≡ text_number k → n < 8 → TableSaved lim a n w s₁ v → PartSaved lim a k w s v
  part_table k n c h f l o i t u roomy shared ok after b d =
      let g : text_number k < 8 = subst (λ (j : ℕ). j < 8) c h in
      table_joined lim a (base t u) (part_of k u) (rejoined k t u) (text_number k) g (base_ok lim a k t u ok after) (part_allowed lim a k t u ok after) after (kind_joins lim a k t u g) v i
      (subst (λ (j : ℕ). TableSaved lim a j (placed_layout lim (part_of k u)) (shared_layout lim a (base t u)) v) c
      (subst (λ (x : List ℕ). TableSaved lim a n x (shared_layout lim a (base t u)) v) d (subst (λ (x : List ℕ). TableSaved lim a n w x v) (copied k t u ok after b d) f)))
