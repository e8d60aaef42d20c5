-- A store of tables is loaded as their working copy. Assumes nothing.
use Rattle.lists.proofs.Kit.{ℕ, zero, suc, ◌+◌, ◌-◌, ◌*◌, ◌≤◌, ◌<◌, ◌↔◌, ◌≡◌, refl, sym, ap, ap₂, ◌∙◌, subst⁻¹, List, [], ◌∷◌, ◌++◌, map, Option, not-suc-le-zero, le_of_suc-le-suc, arith, mid_of, length, take, get_or, replicate, length-take-le, drop, length-drop, take_all}
use Rattle.slots.specs.Slots.{sum}
use Rattle.writing.specs.Settings.{Text}
use Rattle.tables.specs.declared.limits.Limits.{Limits}
use Rattle.tables.specs.Layout.{placed_layout, used_size}
use Rattle.tables.specs.Tables.{Tables}
use Rattle.shared_texts.specs.declared.Run.{Run}
use Rattle.shared_texts.specs.Moves.{loaded_run, loaded}
use Rattle.tables.specs.SharedLayout.{heads_size, shared_layout}
use Rattle.shared_texts.specs.Shared.{SharedOk, text_runs, no_run, run_units, stored_units}
use Rattle.tables.specs.Texts.{text_tables, texts_in, present, texts_of, units_of, text_sum, table_sum}
use Rattle.shared_texts.proofs.RunLaws.{Moved, AllMoved}
use Rattle.shared_texts.proofs.Sums.{units_append}
use Rattle.shared_texts.proofs.WorkLaws.{all_moved, loaded_work}
use Rattle.working.specs.Loading.{stored_gap, TextsIn, UnitsAre, IsLoaded}
use Rattle.working.specs.Runs.{run_of, slots_before, heads_before, in_turn}
use Rattle.working.specs.Working.{LoadedShared}
use Rattle.working.proofs.WholeLaws.{loaded_done}

-- the area as it is lent
pub area_lent : (lim : Limits) (a heads : ℕ) (s : List ℕ) → heads ≡ heads_size lim → heads + a ≤ length s → length (mid_of heads (heads + a - heads) s) ≡ a
area_lent lim a heads s e h = length-take-le (heads + a - heads) (drop heads s) (omega (arith, length-drop heads s)) ∙ omega arith

pub area_asks : (lim : Limits) (a heads : ℕ) (s : List ℕ) → heads ≡ heads_size lim → heads + a ≤ length s → TextsIn lim s a
    → (mid_of heads (heads + a - heads) s ≡ mid_of (heads_size lim) (length (mid_of heads (heads + a - heads) s)) s) × TextsIn lim s (length (mid_of heads (heads + a - heads) s))
area_asks lim a heads s e h t =
    let l = area_lent lim a heads s e h in
    let b : heads + a - heads ≡ a = omega arith in
    (ap₂ (λ (i j : ℕ). mid_of i j s) e (b ∙ sym l), subst⁻¹ (TextsIn lim s) l t)

-- the tables and what stands behind them were loaded
pub all_loaded : (lim : Limits) (a heads : ℕ) (s w u : List ℕ) → heads ≡ heads_size lim → heads + a ≤ length s
    → take (slots_before lim 8) w ≡ in_turn (stored_gap lim s) (loaded_run lim (length (mid_of heads (heads + a - heads) s)) s) 8
    → u ≡ take (slots_before lim 8) w ++ (mid_of (heads_before lim 8) lim.lines s ++ replicate (lim.size - used_size lim) 0) → IsLoaded lim a s u
unfolding IsLoaded
all_loaded lim a heads s w u e h d f =
    loaded_done lim a s w u (d ∙ ap (λ (i : ℕ). in_turn (stored_gap lim s) (loaded_run lim i s) 8) (area_lent lim a heads s e h)) f

-- ---- a store of tables

-- a table's heads count the units of its texts
run_counted : (s w : List ℕ) (x : Run) (os : List (Option Text)) → Moved s w x os → run_units s x.many x ≡ units_of (present os)
run_counted s w x os c = c.counts x.many (omega arith) ∙ ap (λ (y : List (Option Text)). units_of (present y)) (take_all x.many os c.few)

-- so do those of table k
nth_counted : (s w : List ℕ) (runs : List Run) (tables : List (List (Option Text))) → AllMoved s w runs tables → (k : ℕ) → k < length runs
    → run_units s (get_or runs k no_run).many (get_or runs k no_run) ≡ units_of (present (get_or tables k []))
nth_counted s w [] tables c k h = absurd (not-suc-le-zero h)
nth_counted s w (x ∷ runs) [] c k h = absurd c
nth_counted s w (x ∷ runs) (os ∷ tables) c zero h = run_counted s w x os c.0
nth_counted s w (x ∷ runs) (os ∷ tables) c (suc k) h = nth_counted s w runs tables c.1 k (le_of_suc-le-suc h)

-- and all heads those of all texts
runs_counted : (s w : List ℕ) (runs : List Run) (tables : List (List (Option Text))) → AllMoved s w runs tables → sum (map (λ x. run_units s x.many x) runs) ≡ units_of (texts_in tables)
runs_counted s w [] [] c = refl
runs_counted s w [] (os ∷ tables) c = absurd c
runs_counted s w (x ∷ runs) [] c = absurd c
runs_counted s w (x ∷ runs) (os ∷ tables) c =
    ap₂ (λ (i j : ℕ). i + j) (run_counted s w x os c.0) (runs_counted s w runs tables c.1) ∙ sym (units_append (present os) (texts_in tables))

-- two bytes for each
doubled : (r n a : ℕ) → r ≡ n → (r * 2 ≤ a) ↔ (2 * n ≤ a)
doubled r n a e = (λ h. omega arith, λ h. omega arith)

twice : (r n : ℕ) → r ≡ n → r * 2 ≡ 2 * n
twice r n e = omega arith

-- what the texts take
pub texts_counted : (lim : Limits) (a : ℕ) (s : List ℕ) (r : ℕ) (t : Tables) → UnitsAre lim s r → SharedOk lim a t → s ≡ shared_layout lim a t → r * 2 ≡ text_sum t
unfolding UnitsAre
texts_counted lim a s r t e ok b =
    twice r (units_of (texts_of t))
    (e ∙ ap (stored_units lim) b ∙ runs_counted (shared_layout lim a t) (placed_layout lim t) (text_runs lim) (text_tables t) (all_moved lim a t ok.allowed))

-- and those of table k
pub table_counted : (lim : Limits) (a : ℕ) (s : List ℕ) (r : ℕ) (t : Tables) (k : ℕ) (x : Run) → k < 8 → x ≡ run_of lim k → r ≡ run_units s x.many x → SharedOk lim a t → s ≡ shared_layout lim a t
    → r * 2 ≡ table_sum (get_or (text_tables t) k [])
table_counted lim a s r t k x h e d ok b =
    twice r (units_of (present (get_or (text_tables t) k [])))
    (d ∙ ap₂ (λ (l : List ℕ) (y : Run). run_units l y.many y) b e ∙ nth_counted (shared_layout lim a t) (placed_layout lim t) (text_runs lim) (text_tables t) (all_moved lim a t ok.allowed) k h)

-- so as many stand in the area as are counted
pub texts_fit : (lim : Limits) (a : ℕ) (s : List ℕ) (r : ℕ) (t : Tables) → UnitsAre lim s r → SharedOk lim a t → s ≡ shared_layout lim a t → r * 2 ≤ a
texts_fit lim a s r t e ok b = subst⁻¹ (λ (n : ℕ). n ≤ a) (texts_counted lim a s r t e ok b) ok.room

-- where they do, the texts that are counted stand in the area
pub texts_in_area : (lim : Limits) (a : ℕ) (s : List ℕ) (r : ℕ) → UnitsAre lim s r → r * 2 ≤ a → TextsIn lim s a
unfolding UnitsAre TextsIn
texts_in_area lim a s r e h = (doubled r (stored_units lim s) a e).0 h

-- which they do in a store of tables
pub texts_stand : (lim : Limits) (a : ℕ) (s : List ℕ) (t : Tables) → SharedOk lim a t → s ≡ shared_layout lim a t → TextsIn lim s a
unfolding UnitsAre
texts_stand lim a s t ok b = texts_in_area lim a s (stored_units lim s) refl (texts_fit lim a s (stored_units lim s) t refl ok b)

-- LOADED: what was loaded is the working copy
pub loaded_shared : (lim : Limits) (a : ℕ) (s w u : List ℕ) → IsLoaded lim a s u → LoadedShared lim a s w u
unfolding IsLoaded
loaded_shared lim a s w u e l o t roomy shared ok b = e ∙ ap (loaded lim a) b ∙ loaded_work lim a t ok.allowed ok.room
