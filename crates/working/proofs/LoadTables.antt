-- Loading the tables of a store, one by one. Assumes nothing.
use Rattle.lists.proofs.Kit.{ℕ, zero, suc, ◌+◌, ◌-◌, ◌*◌, ◌≤◌, ◌<◌, ◌≡◌, refl, sym, ap, ap₂, ◌∙◌, subst⁻¹, List, ◌++◌, map, zero-mul, suc-mul, add-zero, arith, put_mid, mid_of, length, take, drop, get_or, length-append, length-drop, length-take-le}
use Rattle.slots.specs.Slots.{sum, pad}
use Rattle.slots.proofs.Pads.{pad_length}
use Rattle.tables.specs.declared.limits.Limits.{Limits}
use Rattle.shared_texts.specs.declared.Run.{Run}
use Rattle.shared_texts.specs.Moves.{spread, loaded_run}
use Rattle.tables.specs.SharedLayout.{heads_size}
use Rattle.shared_texts.specs.Shared.{text_runs, no_run, heads_in, run_units, counted_before}
use Rattle.working.specs.Loading.{slots_size, loaded_slots, next_place, stored_gap, TextsIn}
use Rattle.working.specs.Runs.{run_of, slots_end, heads_end, slots_before, heads_before, gap, in_turn}
use Rattle.working.proofs.WalkLaws.{sum_more, sum_fits, At, at_start, at_gap, at_heads, at_slots, at_next, next_in_turn}

-- a table's slots fill their places
pub spread_length : (h v n : ℕ) (heads s : List ℕ) → n * suc h ≤ length heads → length (spread h v n heads s) ≡ n * (h + v)
spread_length h v zero heads s l = sym (zero-mul (h + v))
spread_length h v (suc n) heads s l =
    let own : List ℕ = take h heads in
    let text : List ℕ = pad 0 v (take (2 * get_or heads h 0) s) in
    let rest : List ℕ = spread h v n (drop (suc h) heads) (drop (2 * get_or heads h 0) s) in
    let r : length rest ≡ n * (h + v) = spread_length h v n (drop (suc h) heads) (drop (2 * get_or heads h 0) s) (omega (arith, length-drop (suc h) heads, suc-mul n (suc h))) in
    let o : length own ≡ h = length-take-le h heads (omega (arith, suc-mul n (suc h))) in
    let t : length text ≡ v = pad_length 0 v (take (2 * get_or heads h 0) s) in
    omega (arith, length-append (own ++ text) rest, length-append own text, suc-mul n (h + v))

-- the units that a table's heads count
abbrev units_in : List ℕ → Run → ℕ
units_in s x = run_units s x.many x

-- the first k tables are loaded
pub record Loads (lim : Limits) (s texts w₀ w : List ℕ) (heads slots place k : ℕ) : Type 0 where
  pub at : At lim heads slots k
  pub place_at : place ≡ 2 * sum (map (units_in s) (take k (text_runs lim)))
  pub long : length w ≡ length w₀
  pub done : take slots w ≡ in_turn (stored_gap lim s) (loaded_run lim (length texts) s) k

-- at the start none is
pub loads_start : (lim : Limits) (s texts w : List ℕ) → Loads lim s texts w w 0 0 0 0
loads_start lim s texts w = record { at = at_start lim; place_at = refl; long = refl; done = refl }

module _ {lim : Limits} {s texts w₀ w : List ℕ} {heads slots place k : ℕ} (v : Loads lim s texts w₀ w heads slots place k) (h : k < 8) (x : Run) (e : x ≡ run_of lim k) where
  -- its texts stand in the area
  pub loads_texts : TextsIn lim s (length texts) → next_place x s place ≤ length texts
  unfolding TextsIn
  loads_texts l = subst⁻¹ (λ (p : ℕ). p + 2 * units_in s x ≤ length texts) v.place_at (sum_fits (units_in s) (text_runs lim) k no_run x (length texts) h e l)

  -- it is loaded
  pub loads_more : (n r p q : ℕ) (z u : List ℕ) → n ≡ x.start - heads → slots_end x ≤ length w → heads_end x ≤ length s → texts ≡ mid_of (heads_size lim) (length texts) s
      → z ≡ put_mid slots n w (mid_of heads n s) → (r ≡ next_place x s place) × (u ≡ put_mid x.from (slots_size x) z (loaded_slots x s texts place)) → p ≡ heads_end x → q ≡ slots_end x → Loads lim s texts w₀ u p q r (k + 1)
  loads_more n r p q z u i l o b d f pe qe =
      let g : n ≡ gap lim k = i ∙ at_gap v.at h x e in
      let c : place ≡ 2 * counted_before s (text_runs lim) k 0 = v.place_at ∙ ap (λ (j : ℕ). 2 * j) (sym (add-zero _)) in
      let y : List ℕ = loaded_run lim (length texts) s k in
      let m : loaded_slots x s texts place ≡ y
      = ap₂ (λ (j : Run) (t : List ℕ). loaded_slots j s t place) e b ∙ ap (loaded_slots (run_of lim k) s (mid_of (heads_size lim) (length texts) s)) c in
      let yl : length y ≡ slots_size x = ap length (sym m) ∙ spread_length x.own x.room x.many (heads_in s x) (drop place texts) (omega (arith, length-take-le (x.many * suc x.own) (drop x.start s) (omega (arith, length-drop x.start s)))) in
      let gl : length (stored_gap lim s k) ≡ n = sym (ap (λ (j : ℕ). length (mid_of (heads_before lim k) j s)) g) ∙ length-take-le n (drop (heads_before lim k) s) (omega (arith, length-drop (heads_before lim k) s, v.at.heads_at, at_heads v.at h x e)) in
      let t = next_in_turn (stored_gap lim s) (loaded_run lim (length texts) s) k w z u slots n x.from (slots_size x) v.done gl yl (omega (arith, at_slots v.at h x e)) l
      (d ∙ ap₂ (λ (j i : ℕ). put_mid slots n w (mid_of j i s)) v.at.heads_at g) (f.1 ∙ ap (put_mid x.from (slots_size x) z) m) in
      record {
        at = at_next v.at h x e p q pe qe;
        place_at = f.0 ∙ ap₂ (λ (i j : ℕ). i + 2 * j) v.place_at (ap (units_in s) e) ∙ twice _ _ ∙ ap (λ (j : ℕ). 2 * j) (sym (sum_more (units_in s) (text_runs lim) k no_run h));
        long = t.1 ∙ v.long;
        done = ap (λ (j : ℕ). take j u) qe ∙ t.0;
      }
    where
      twice : (i j : ℕ) → 2 * i + 2 * j ≡ 2 * (i + j)
      twice i j = omega arith

-- all are
pub loads_end : {lim : Limits} {s texts w₀ w : List ℕ} {heads slots place k : ℕ} → Loads lim s texts w₀ w heads slots place k → 8 ≤ k → take (slots_before lim 8) w ≡ in_turn (stored_gap lim s) (loaded_run lim (length texts) s) 8
loads_end {lim} {s} {texts} {w₀} {w} {heads} {slots} {place} {k} v h =
    let e : k ≡ 8 = omega (arith, v.at.inside) in
    ap (λ (j : ℕ). take j w) (sym (v.at.slots_at ∙ ap (slots_before lim) e)) ∙ v.done ∙ ap (in_turn (stored_gap lim s) (loaded_run lim (length texts) s)) e
