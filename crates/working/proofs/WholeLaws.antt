-- The whole of a working copy and of a store: tables in turn, with what stands before each, and what stands behind the last. Assumes nothing.
use Rattle.lists.proofs.Kit.{ℕ, ◌+◌, ◌-◌, ◌*◌, suc, ◌≤◌, ◌<◌, ◌≡◌, refl, sym, ap, ap₂, ◌∙◌, true, ◌↔◌, leb, leb-true, le-leb, List, [], ◌∷◌, ◌++◌, append_assoc, append-nil, arith, put_mid, mid_of, post_of, length, take, drop, replicate, length-drop, drop_of_length-le, length-take-le, take-add, drop-drop}
use Rattle.slots.specs.Slots.{flat}
use Rattle.tables.specs.declared.limits.Limits.{Limits}
use Rattle.tables.specs.Layout.{count_size, channels_size, line_width, used_size, quick_at, group_contacts_at, individual_contacts_at, channels_at, lines_at}
use Rattle.shared_texts.specs.declared.Run.{Run}
use Rattle.tables.specs.Heads.{line_own}
use Rattle.shared_texts.specs.Moves.{loaded_run, loaded}
use Rattle.tables.specs.SharedLayout.{group_contact_heads_at, individual_contact_heads_at, shared_channels_at, line_heads_at, heads_size}
use Rattle.shared_texts.specs.Shared.{SharedRoomy}
use Rattle.working.specs.Loading.{stored_gap}
use Rattle.working.specs.Saving.{worked_gap}
use Rattle.working.specs.Runs.{run_of, slots_end, heads_end, slots_before, heads_before, gap, in_turn}
use Rattle.working.proofs.SlotLaws.{put_behind, put_long}

-- ---- bytes to the end

-- what stands from a place on was wiped
pub wiped_behind : (u v : List ℕ) (e : ℕ) → e ≤ length u → v ≡ replicate (length (mid_of e (length u - e) u)) 0 → put_mid e (length u - e) u v ≡ take e u ++ replicate (length u - e) 0
wiped_behind u v e h z =
    let l : length (mid_of e (length u - e) u) ≡ length u - e = length-take-le (length u - e) (drop e u) (omega (arith, length-drop e u)) in
    let p : post_of e (length u - e) u ≡ [] = drop_of_length-le (drop e u) {i = length u - e} (omega (arith, length-drop e u)) in
    ap₂ (λ (x y : List ℕ). take e u ++ (x ++ y)) (z ∙ ap (λ (j : ℕ). replicate j 0) l) p ∙ ap (λ (x : List ℕ). take e u ++ x) (append-nil (replicate (length u - e) 0))

-- n bytes were put at a place, and what stands behind them was wiped
pub tail_put : (w y u v : List ℕ) (to n : ℕ) → length y ≡ n → to + n ≤ length w → u ≡ put_mid to n w y → v ≡ replicate (length (mid_of (to + n) (length u - (to + n)) u)) 0
    → put_mid (to + n) (length u - (to + n)) u v ≡ take to w ++ (y ++ replicate (length w - (to + n)) 0)
tail_put w y u v to n l h d z =
    let ul : length u ≡ length w = ap length d ∙ put_long w y to n l h in
    let t : take (to + n) u ≡ take to w ++ y = ap (take (to + n)) d ∙ put_behind w y to n (omega arith) l in
    wiped_behind u v (to + n) (omega arith) z ∙ ap₂ (λ (x : List ℕ) (j : ℕ). x ++ replicate j 0) t (ap (λ (j : ℕ). j - (to + n)) ul) ∙ append_assoc (take to w) y (replicate (length w - (to + n)) 0)

-- two runs of bytes, one behind the other
pub mid_two : (at i j : ℕ) (s : List ℕ) → mid_of at (i + j) s ≡ mid_of at i s ++ mid_of (at + i) j s
mid_two at i j s = take-add i j (drop at s) ∙ ap (λ (l : List ℕ). take i (drop at s) ++ take j l) (drop-drop i at s)

-- ---- all of it

-- tables in turn are runs, one behind another
in_a_row : (f q p g v d j e k u c m l o : List ℕ) (z : List (List ℕ))
    → ((((((((f ++ q) ++ p) ++ g) ++ v) ++ d) ++ (j ++ e)) ++ (k ++ u)) ++ ((c ++ m) ++ l)) ++ (o ++ flat z) ≡ flat (f ∷ q ∷ p ∷ g ∷ v ∷ d ∷ j ∷ e ∷ k ∷ u ∷ c ∷ m ∷ l ∷ o ∷ z)
in_a_row f q p g v d j e k u c m l o z = simp append_assoc

-- WHOLE: with what stands before each, which is nothing before four of them, and behind the last
whole_of : (g r : ℕ → List ℕ) (c m o : List ℕ) (z : List (List ℕ)) → g 1 ≡ [] → g 2 ≡ [] → g 3 ≡ [] → g 4 ≡ [] → g 7 ≡ c ++ m
    → in_turn g r 8 ++ (o ++ flat z) ≡ flat (g 0 ∷ r 0 ∷ r 1 ∷ r 2 ∷ r 3 ∷ r 4 ∷ g 5 ∷ r 5 ∷ g 6 ∷ r 6 ∷ c ∷ m ∷ r 7 ∷ o ∷ z)
whole_of g r c m o z e₁ e₂ e₃ e₄ e₇ =
    (λ i. (((((((((g 0 ++ r 0) ++ (e₁ i ++ r 1)) ++ (e₂ i ++ r 2)) ++ (e₃ i ++ r 3)) ++ (e₄ i ++ r 4)) ++ (g 5 ++ r 5)) ++ (g 6 ++ r 6)) ++ (e₇ i ++ r 7)) ++ (o ++ flat z)))
    ∙ in_a_row (g 0) (r 0) (r 1) (r 2) (r 3) (r 4) (g 5) (r 5) (g 6) (r 6) c m (r 7) o z

-- channels and the count of the lines stand before the lines
lines_gap : (lim : Limits) (at : ℕ) (s : List ℕ) → mid_of at (gap lim 7) s ≡ mid_of at (channels_size lim) s ++ mid_of (at + channels_size lim) count_size s
lines_gap lim at s =
    let g : gap lim 7 ≡ channels_size lim + count_size = omega arith in
    ap (λ (i : ℕ). mid_of at i s) g ∙ mid_two at (channels_size lim) count_size s

module _ (lim : Limits) (s : List ℕ) (r : ℕ → List ℕ) (z : List (List ℕ)) where
  -- of a store
  pub stored_whole : in_turn (stored_gap lim s) r 8 ++ (mid_of (heads_before lim 8) lim.lines s ++ flat z)
      ≡ flat (mid_of 0 quick_at s ∷ r 0 ∷ r 1 ∷ r 2 ∷ r 3 ∷ r 4 ∷ mid_of group_contact_heads_at count_size s ∷ r 5 ∷ mid_of individual_contact_heads_at count_size s ∷ r 6 ∷ mid_of shared_channels_at (channels_size lim) s ∷ mid_of (line_heads_at lim) count_size s ∷ r 7 ∷ mid_of (line_heads_at lim + (count_size + lim.lines * suc line_own)) lim.lines s ∷ z)
  stored_whole =
      let h : heads_before lim 8 ≡ line_heads_at lim + (count_size + lim.lines * suc line_own) = omega arith in
      ap (λ (i : ℕ). in_turn (stored_gap lim s) r 8 ++ (mid_of i lim.lines s ++ flat z)) h
      ∙ whole_of (stored_gap lim s) r (mid_of shared_channels_at (channels_size lim) s) (mid_of (line_heads_at lim) count_size s) (mid_of (line_heads_at lim + (count_size + lim.lines * suc line_own)) lim.lines s) z refl refl refl refl (lines_gap lim shared_channels_at s)

  -- of a working copy
  pub worked_whole : in_turn (worked_gap lim s) r 8 ++ (mid_of (slots_before lim 8) lim.lines s ++ flat z)
      ≡ flat (mid_of 0 quick_at s ∷ r 0 ∷ r 1 ∷ r 2 ∷ r 3 ∷ r 4 ∷ mid_of group_contacts_at count_size s ∷ r 5 ∷ mid_of individual_contacts_at count_size s ∷ r 6 ∷ mid_of channels_at (channels_size lim) s ∷ mid_of (lines_at lim) count_size s ∷ r 7 ∷ mid_of (lines_at lim + (count_size + lim.lines * line_width)) lim.lines s ∷ z)
  worked_whole =
      let h : slots_before lim 8 ≡ lines_at lim + (count_size + lim.lines * line_width) = omega arith in
      ap (λ (i : ℕ). in_turn (worked_gap lim s) r 8 ++ (mid_of i lim.lines s ++ flat z)) h
      ∙ whole_of (worked_gap lim s) r (mid_of channels_at (channels_size lim) s) (mid_of (lines_at lim) count_size s) (mid_of (lines_at lim + (count_size + lim.lines * line_width)) lim.lines s) z refl refl refl refl (lines_gap lim channels_at s)

-- ---- behind the tables

-- the lines are the last of them, and behind them stands their order
pub lines_end : (lim : Limits) (x : Run) (to from : ℕ) → x ≡ run_of lim 7 → to ≡ slots_end x → from ≡ heads_end x → (to + lim.lines ≡ used_size lim) × (from + lim.lines ≡ heads_size lim)
lines_end lim x to from e d f =
    let a : slots_end (run_of lim 7) + lim.lines ≡ used_size lim = omega arith in
    let b : heads_end (run_of lim 7) + lim.lines ≡ heads_size lim = omega arith in
    (ap (λ (i : ℕ). i + lim.lines) (d ∙ ap slots_end e) ∙ a, ap (λ (i : ℕ). i + lim.lines) (f ∙ ap heads_end e) ∙ b)

-- the order was copied, and what stands behind it was wiped
pub tail_loaded : (lim : Limits) (x : Run) (w s u v : List ℕ) (to from : ℕ) → x ≡ run_of lim 7 → to ≡ slots_end x → from ≡ heads_end x → length w ≡ lim.size → used_size lim ≤ lim.size → heads_size lim ≤ length s
    → u ≡ put_mid to lim.lines w (mid_of from lim.lines s) → v ≡ replicate (length (mid_of (to + lim.lines) (length u - (to + lim.lines)) u)) 0
    → put_mid (to + lim.lines) (length u - (to + lim.lines)) u v ≡ take (slots_before lim 8) w ++ (mid_of (heads_before lim 8) lim.lines s ++ replicate (lim.size - used_size lim) 0)
tail_loaded lim x w s u v to from e d f l r h p z =
    let (a, b) = lines_end lim x to from e d f in
    let y : length (mid_of from lim.lines s) ≡ lim.lines = length-take-le lim.lines (drop from s) (omega (arith, length-drop from s)) in
    let i : length w - (to + lim.lines) ≡ lim.size - used_size lim = ap₂ (λ (j k : ℕ). j - k) l a in
    tail_put w (mid_of from lim.lines s) u v to lim.lines y (omega arith) p z
    ∙ ap₂ (λ (j k : ℕ). take j w ++ (mid_of k lim.lines s ++ replicate (length w - (to + lim.lines)) 0)) (d ∙ ap slots_end e) (f ∙ ap heads_end e)
    ∙ ap (λ (k : ℕ). take (slots_before lim 8) w ++ (mid_of (heads_before lim 8) lim.lines s ++ replicate k 0)) i

-- the order was copied to a store
pub order_saved : (lim : Limits) (x : Run) (s w u : List ℕ) (from to : ℕ) → x ≡ run_of lim 7 → from ≡ slots_end x → to ≡ heads_end x → heads_size lim ≤ length s → used_size lim ≤ length w
    → u ≡ put_mid to lim.lines s (mid_of from lim.lines w) → take (heads_size lim) u ≡ take (heads_before lim 8) s ++ mid_of (slots_before lim 8) lim.lines w
order_saved lim x s w u from to e d f l r p =
    let (a, b) = lines_end lim x from to e d f in
    let y : length (mid_of from lim.lines w) ≡ lim.lines = length-take-le lim.lines (drop from w) (omega (arith, length-drop from w)) in
    ap₂ (λ (i : ℕ) (z : List ℕ). take i z) (sym b) p ∙ put_behind s (mid_of from lim.lines w) to lim.lines (omega arith) y
    ∙ ap₂ (λ (i j : ℕ). take i s ++ mid_of j lim.lines w) (f ∙ ap heads_end e) (d ∙ ap slots_end e)

-- LOADED-DONE: the tables were loaded, the order of the lines was copied behind them, and zeros stand behind it
pub loaded_done : (lim : Limits) (a : ℕ) (s w u : List ℕ) → take (slots_before lim 8) w ≡ in_turn (stored_gap lim s) (loaded_run lim a s) 8
    → u ≡ take (slots_before lim 8) w ++ (mid_of (heads_before lim 8) lim.lines s ++ replicate (lim.size - used_size lim) 0) → u ≡ loaded lim a s
loaded_done lim a s w u t e =
    let z : List ℕ = replicate (lim.size - used_size lim) 0 in
    e ∙ ap₂ (λ (x y : List ℕ). x ++ (mid_of (heads_before lim 8) lim.lines s ++ y)) t (sym (append-nil z)) ∙ stored_whole lim s (loaded_run lim a s) (z ∷ [])

-- heads and area have room
pub shared_is : (lim : Limits) (a n heads : ℕ) → n ≡ lim.size → lim.channels < 65536 → lim.lines ≤ 255 → heads ≡ heads_size lim → heads ≤ lim.size → (leb a (lim.size - heads) ≡ true) ↔ ((n ≡ lim.size) × SharedRoomy lim a)
shared_is lim a n heads l c d e h = (
  λ t. let i = leb-true a (lim.size - heads) t in (l, record { fits = omega arith; few_channels = c; few_lines = d }),
  λ x. le-leb a (lim.size - heads) (omega (arith, x.1.fits)),
)
