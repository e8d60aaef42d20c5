-- One table of a store, loaded alone: its count, its rows and their texts, and its order. Assumes nothing.
use Rattle.lists.proofs.Kit.{ℕ, suc, ◌+◌, ◌-◌, ◌*◌, ◌≤◌, ◌<◌, ◌≡◌, sym, ap, ap₂, ◌∙◌, Bool, true, false, cond, List, ◌++◌, append_assoc, arith, put_mid, mid_of, post_of, length, take, drop, length-append, length-drop, length-take-le, drop-drop, drop_at, ltb, lt-ltb, le-ltb, map}
use Rattle.slots.specs.Slots.{sum}
use Rattle.writing.specs.declared.Kind.{Kind}
use Rattle.tables.specs.declared.limits.Limits.{Limits}
use Rattle.tables.specs.Layout.{channels_size, channels_at, used_size}
use Rattle.tables.specs.SharedLayout.{shared_channels_at, heads_size}
use Rattle.shared_texts.specs.declared.Run.{Run}
use Rattle.shared_texts.specs.Moves.{loaded_run}
use Rattle.shared_texts.specs.Shared.{text_runs, no_run, heads_in, run_units, counted_before}
use Rattle.working.specs.Loading.{slots_size, loaded_slots, next_place, TextsIn}
use Rattle.working.specs.PartLoading.{count_of, order_of, table_at, table_size, table_of, table_put, channels?, RowsLoaded, TableLoaded, KindLoaded}
use Rattle.working.specs.Runs.{run_of, text_number, slots_end, heads_end}
use Rattle.working.proofs.LoadTables.{spread_length}
use Rattle.working.proofs.LoadedLaws.{area_lent}
use Rattle.working.proofs.SlotLaws.{put_behind}
use Rattle.working.proofs.WalkLaws.{each_table, sum_fits}

-- ---- where it stands

-- c bytes before its rows and o behind them, in both forms
pub record Fits (lim : Limits) (x : Run) (c o : ℕ) : Type 0 where
  pub heads_count : c ≤ x.start
  pub slots_count : c ≤ x.from
  pub slots : slots_end x + o ≤ used_size lim
  pub heads : heads_end x + o ≤ heads_size lim

-- its count and its order do
stands : (lim : Limits) (k : ℕ) → k < 8 → Fits lim (run_of lim k) (count_of k) (order_of lim k)
stands lim = each_table (λ k. Fits lim (run_of lim k) (count_of k) (order_of lim k)) (omega arith) (omega arith) (omega arith) (omega arith) (omega arith) (omega arith) (omega arith) (omega arith)

pub stands_as : (lim : Limits) (k : ℕ) → k < 8 → (x : Run) (c o : ℕ) → x ≡ run_of lim k → c ≡ count_of k → o ≡ order_of lim k → Fits lim x c o
stands_as lim k h x c o e d g = rw (e, d, g) (stands lim k h)

-- ---- its rows

-- two bytes for each unit
doubled : (n m p q a : ℕ) → n ≡ p + 0 → m ≡ q → 2 * p + 2 * q ≤ a → n * 2 + m * 2 ≤ a
doubled n m p q a b c h = omega arith

module _ (lim : Limits) (a : ℕ) (s : List ℕ) (k : ℕ) (h : k < 8) (x : Run) (e : x ≡ run_of lim k) (n m : ℕ) (b : n ≡ counted_before s (text_runs lim) k 0) (c : m ≡ run_units s x.many x) where
  -- its texts stand in the area, where all do
  rows_room : TextsIn lim s a → n * 2 + m * 2 ≤ a
  unfolding TextsIn
  rows_room t = doubled n m (sum (map (λ y. run_units s y.many y) (take k (text_runs lim)))) (run_units s x.many x) a b c (sum_fits (λ y. run_units s y.many y) (text_runs lim) k no_run x a h e t)

  -- where they do not, nothing is promised
  pub rows_refused : (w u : List ℕ) → a < n * 2 + m * 2 → RowsLoaded lim a s k w u
  unfolding RowsLoaded
  rows_refused w u l t = absurd (omega (arith, rows_room t))

  module _ (heads : ℕ) (d : heads ≡ heads_size lim) (l : heads + a ≤ length s) where
    -- what loading them asks for
    pub rows_ask : n * 2 + m * 2 ≤ a → next_place x s (n * 2) ≤ length (mid_of heads (heads + a - heads) s)
    rows_ask r = omega (arith, area_lent lim a heads s d l)

    -- and what it leaves
    pub rows_loaded : (w u : List ℕ) → u ≡ put_mid x.from (slots_size x) w (loaded_slots x s (mid_of heads (heads + a - heads) s) (n * 2)) → RowsLoaded lim a s k w u
    unfolding RowsLoaded
    rows_loaded w u f t =
        let i : n * 2 ≡ 2 * counted_before s (text_runs lim) k 0 = omega arith in
        let j : heads + a - heads ≡ a = omega arith in
        f ∙ (λ q. put_mid (e q).from (slots_size (e q)) w (loaded_slots (e q) s (mid_of (d q) (j q) s) (i q)))

-- ---- all of it

-- bytes put behind others that were put
pub put_next : (w x y : List ℕ) (at m n : ℕ) → length x ≡ m → at + m ≤ length w → put_mid (at + m) n (put_mid at m w x) y ≡ put_mid at (m + n) w (x ++ y)
put_next w x y at m n l h =
    let t : take (at + m) (put_mid at m w x) ≡ take at w ++ x = put_behind w x at m (omega arith) l in
    let f : length (take at w ++ x) ≡ at + m = omega (arith, length-append (take at w) x, length-take-le at w (omega arith)) in
    let d : drop (at + m) (put_mid at m w x) ≡ drop m (drop at w) = ap (drop (at + m)) (sym (append_assoc (take at w) x (post_of at m w))) ∙ drop_at (take at w ++ x) (post_of at m w) (at + m) f in
    ap₂ (λ (i j : List ℕ). i ++ (y ++ drop n j)) t d
    ∙ ap (λ (i : List ℕ). (take at w ++ x) ++ (y ++ i)) (drop-drop n m (drop at w))
    ∙ append_assoc (take at w) x (y ++ drop (m + n) (drop at w))
    ∙ ap (λ (i : List ℕ). take at w ++ i) (sym (append_assoc x y (drop (m + n) (drop at w))))

-- so many bytes stand there
mid_long : (at n : ℕ) (s : List ℕ) → at + n ≤ length s → length (mid_of at n s) ≡ n
mid_long at n s h = length-take-le n (drop at s) (omega (arith, length-drop at s))

module _ (lim : Limits) (a : ℕ) (s : List ℕ) (k : ℕ) (h : k < 8) (l : heads_size lim ≤ length s) where
  -- its count
  count_long : length (mid_of ((run_of lim k).start - count_of k) (count_of k) s) ≡ count_of k
  count_long = let v = stands lim k h in mid_long ((run_of lim k).start - count_of k) (count_of k) s (omega (arith, v.heads_count, v.heads))

  -- its rows
  rows_long : length (loaded_run lim a s k) ≡ slots_size (run_of lim k)
  rows_long =
      let x : Run = run_of lim k in
      spread_length x.own x.room x.many (heads_in s x) _ (omega (arith, mid_long x.start (x.many * suc x.own) s (omega (arith, (stands lim k h).heads))))

  -- and its order fill their places
  order_long : length (mid_of (heads_end (run_of lim k)) (order_of lim k) s) ≡ order_of lim k
  order_long = mid_long (heads_end (run_of lim k)) (order_of lim k) s (omega (arith, (stands lim k h).heads))

  pub table_long : length (table_of lim a s k) ≡ table_size lim k
  table_long =
      omega (
        arith,
        length-append (mid_of ((run_of lim k).start - count_of k) (count_of k) s) (loaded_run lim a s k ++ mid_of (heads_end (run_of lim k)) (order_of lim k) s),
        length-append (loaded_run lim a s k) (mid_of (heads_end (run_of lim k)) (order_of lim k) s),
        count_long,
        rows_long,
        order_long,
      )

  -- TABLE LOADED: one behind another they are put
  pub table_loaded : (x : Run) (c o : ℕ) (w v r u : List ℕ) → x ≡ run_of lim k → c ≡ count_of k → o ≡ order_of lim k → used_size lim ≤ length w
      → v ≡ put_mid (x.from - c) c w (mid_of (x.start - c) c s) → RowsLoaded lim a s k v r → u ≡ put_mid (slots_end x) o r (mid_of (heads_end x) o s) → TableLoaded lim a s k w u
  unfolding RowsLoaded TableLoaded
  table_loaded x c o w v r u e d g room p q z t =
      let y : Run = run_of lim k in
      let i : List ℕ = mid_of (y.start - count_of k) (count_of k) s in
      let j : List ℕ = loaded_run lim a s k in
      let m : List ℕ = mid_of (heads_end y) (order_of lim k) s in
      let st = stands lim k h in
      let at : table_at lim k + count_of k ≡ y.from = omega (arith, st.slots_count) in
      let en : table_at lim k + (count_of k + slots_size y) ≡ slots_end y = omega (arith, st.slots_count) in
      let v' : v ≡ put_mid (table_at lim k) (count_of k) w i = p ∙ (λ n. put_mid ((e n).from - d n) (d n) w (mid_of ((e n).start - d n) (d n) s)) in
      let r' : r ≡ put_mid (table_at lim k) (count_of k + slots_size y) w (i ++ j)
      = q t ∙ (λ n. put_mid (sym at n) (slots_size y) (v' n) j) ∙ put_next w i j (table_at lim k) (count_of k) (slots_size y) count_long (omega (arith, st.slots)) in
      let ij : length (i ++ j) ≡ count_of k + slots_size y = omega (arith, length-append i j, count_long, rows_long) in
      let b : ltb k 8 ≡ true = lt-ltb k 8 h in
      let f : count_of k + slots_size y + order_of lim k ≡ table_size lim k = omega arith in
      z ∙ (λ n. put_mid (slots_end (e n)) (g n) (r' n) (mid_of (heads_end (e n)) (g n) s))
      ∙ (λ n. put_mid (sym en n) (order_of lim k) (put_mid (table_at lim k) (count_of k + slots_size y) w (i ++ j)) m)
      ∙ put_next w (i ++ j) m (table_at lim k) (count_of k + slots_size y) (order_of lim k) ij (omega (arith, st.slots))
      ∙ ap₂ (λ (n : ℕ) (l : List ℕ). put_mid (table_at lim k) n w l) f (append_assoc i j m)
      ∙ sym (ap (λ (is : Bool). cond is (put_mid (table_at lim k) (table_size lim k) w (table_of lim a s k)) w) b)

-- there is no table 8
pub no_table : (lim : Limits) (a : ℕ) (s : List ℕ) (k : ℕ) (w : List ℕ) → 8 ≤ k → TableLoaded lim a s k w w
unfolding TableLoaded
no_table lim a s k w h t = sym (ap (λ (is : Bool). cond is (put_mid (table_at lim k) (table_size lim k) w (table_of lim a s k)) w) (le-ltb k 8 h))

-- ---- one of two numbers

pub chosen : {b : Bool} (x y : ℕ) → b ≡ true → x ≡ cond b x y
chosen x y e = sym (ap (λ (is : Bool). cond is x y) e)

pub passed : {b : Bool} (x y : ℕ) → b ≡ false → y ≡ cond b x y
passed x y e = sym (ap (λ (is : Bool). cond is x y) e)

-- ---- the table of a kind

-- channels
pub channels_loaded : (lim : Limits) (a : ℕ) (s : List ℕ) (k : Kind) (w u : List ℕ) → channels? k ≡ true → u ≡ put_mid channels_at (channels_size lim) w (mid_of shared_channels_at (channels_size lim) s) → KindLoaded lim a s k w u
unfolding KindLoaded
channels_loaded lim a s k w u h e t = e ∙ sym (ap (λ (is : Bool). cond is (put_mid channels_at (channels_size lim) w (mid_of shared_channels_at (channels_size lim) s)) (table_put lim a s (text_number k) w)) h)

-- and others
pub kind_loaded : (lim : Limits) (a : ℕ) (s : List ℕ) (k : Kind) (n : ℕ) (w u : List ℕ) → channels? k ≡ false → n ≡ text_number k → TableLoaded lim a s n w u → KindLoaded lim a s k w u
unfolding KindLoaded TableLoaded
kind_loaded lim a s k n w u h e l t =
    l t ∙ ap (λ (i : ℕ). table_put lim a s i w) e ∙ sym (ap (λ (is : Bool). cond is (put_mid channels_at (channels_size lim) w (mid_of shared_channels_at (channels_size lim) s)) (table_put lim a s (text_number k) w)) h)
