-- Saving the tables of a working copy, one by one: their heads, and their texts. Assumes nothing.
use Rattle.lists.proofs.Kit.{ℕ, zero, suc, ◌+◌, ◌-◌, ◌*◌, ◌≤◌, ◌<◌, ◌≡◌, refl, sym, ap, ap₂, ◌∙◌, subst⁻¹, List, [], ◌∷◌, ◌++◌, map, append_assoc, append-nil, zero-mul, suc-mul, not-suc-le-zero, le_of_suc-le-suc, add-one, arith, put_mid, mid_of, mid_len, length, take, drop, get_or, replicate, length-append, length-drop, length-take-le, take_all}
use Rattle.slots.specs.Slots.{flat, sum, pad}
use Rattle.slots.proofs.Pads.{pad_is}
use Rattle.tables.specs.declared.limits.Limits.{Limits}
use Rattle.shared_texts.specs.declared.Run.{Run}
use Rattle.shared_texts.specs.Moves.{slot_units, gathered_heads, gathered_texts, placed_units, slots_units, saved_run}
use Rattle.shared_texts.specs.Shared.{text_runs, no_run, slots_in}
use Rattle.working.specs.Runs.{run_of, slots_end, heads_end, slots_before, heads_before, gap, in_turn}
use Rattle.working.specs.Saving.{own_size, gathered_in, texts_in_slots, next_text, worked_gap, TextsSaved, SumIn, IsArea}
use Rattle.working.proofs.WalkLaws.{sum_more, sum_fits, At, at_start, at_gap, at_heads, at_slots, at_next, next_in_turn}
use Rattle.working.proofs.WholeLaws.{wiped_behind}

-- ---- one table

module _ (x : Run) (w : List ℕ) (end : ℕ) (e : end ≡ slots_end x) where
  -- its slots, as they are lent
  abbrev lent : List ℕ
  lent = mid_of x.from (end - x.from) w

  lent_is : lent ≡ slots_in w x
  lent_is = let b : end - x.from ≡ x.many * (x.own + x.room) = omega arith in ap (λ (i : ℕ). mid_of x.from i w) b

  -- its heads are saved
  pub heads_saved : (s y : List ℕ) (tail : ℕ) → tail ≡ heads_end x → y ≡ gathered_heads x.own x.room x.many lent → put_mid x.start (tail - x.start) s y ≡ put_mid x.start (own_size x) s (gathered_in x w)
  heads_saved s y tail d f =
      let b : tail - x.start ≡ own_size x = omega arith in
      ap₂ (λ (i : ℕ) (z : List ℕ). put_mid x.start i s z) b (f ∙ ap (gathered_heads x.own x.room x.many) lent_is)

  -- its slots stand there
  pub texts_ask : slots_end x ≤ length w → x.many * (x.own + x.room) ≤ length lent
  texts_ask h = omega (arith, mid_len x.from end w (omega arith))

  -- its texts are saved
  pub texts_saved : (place r n : ℕ) (a b : List ℕ) → (place + 2 * placed_units x.own x.room x.many lent ≤ n → TextsSaved x.own x.room x.many lent place a r b)
      → next_text x w place ≤ n → (r ≡ next_text x w place) × (take r b ≡ take place a ++ texts_in_slots w x)
  texts_saved place r n a b f h =
      let l = f (subst⁻¹ (λ (z : List ℕ). place + 2 * placed_units x.own x.room x.many z ≤ n) lent_is h) in (
        l.0 ∙ ap (λ (z : List ℕ). place + 2 * placed_units x.own x.room x.many z) lent_is,
        l.1 ∙ ap (λ (z : List ℕ). take place a ++ gathered_texts x.own x.room x.many z) lent_is,
      )

-- ---- the heads of all tables

-- a table's heads fill their places
pub heads_length : (h v n : ℕ) (s : List ℕ) → n * (h + v) ≤ length s → length (gathered_heads h v n s) ≡ n * suc h
heads_length h v zero s l = sym (zero-mul (suc h))
heads_length h v (suc n) s l =
    let own : List ℕ = take h s in
    let rest : List ℕ = gathered_heads h v n (drop (h + v) s) in
    let r : length rest ≡ n * suc h = heads_length h v n (drop (h + v) s) (omega (arith, length-drop (h + v) s, suc-mul n (h + v))) in
    let o : length own ≡ h = length-take-le h s (omega (arith, suc-mul n (h + v))) in
    omega (arith, length-append (own ++ (slot_units h v s ∷ [])) rest, length-append own (slot_units h v s ∷ []), suc-mul n (suc h))

-- the first k are saved
pub record Saves (lim : Limits) (w s₀ s : List ℕ) (heads slots k : ℕ) : Type 0 where
  pub at : At lim heads slots k
  pub long : length s ≡ length s₀
  pub done : take heads s ≡ in_turn (worked_gap lim w) (saved_run lim w) k

-- at the start none is
pub saves_start : (lim : Limits) (w s : List ℕ) → Saves lim w s s 0 0 0
saves_start lim w s = record { at = at_start lim; long = refl; done = refl }

-- one more
pub saves_more : {lim : Limits} {w s₀ s : List ℕ} {heads slots k : ℕ} → Saves lim w s₀ s heads slots k → k < 8 → (x : Run) → x ≡ run_of lim k → (n p q : ℕ) (z u : List ℕ) → n ≡ x.start - heads → slots_end x ≤ length w → heads_end x ≤ length s
    → z ≡ put_mid heads n s (mid_of slots n w) → u ≡ put_mid x.start (own_size x) z (gathered_in x w) → p ≡ heads_end x → q ≡ slots_end x → Saves lim w s₀ u p q (k + 1)
saves_more {lim} {w} {s₀} {s} {heads} {slots} {k} v h x e n p q z u i l o d f pe qe =
    let g : n ≡ gap lim k = i ∙ at_gap v.at h x e in
    let y : List ℕ = saved_run lim w k in
    let m : gathered_in x w ≡ y = ap (λ (j : Run). gathered_in j w) e in
    let yl : length y ≡ own_size x = ap length (sym m) ∙ heads_length x.own x.room x.many (slots_in w x) (omega (arith, length-take-le (x.many * (x.own + x.room)) (drop x.from w) (omega (arith, length-drop x.from w)))) in
    let gl : length (worked_gap lim w k) ≡ n = sym (ap (λ (j : ℕ). length (mid_of (slots_before lim k) j w)) g) ∙ length-take-le n (drop (slots_before lim k) w) (omega (arith, length-drop (slots_before lim k) w, v.at.slots_at, at_slots v.at h x e)) in
    let t = next_in_turn (worked_gap lim w) (saved_run lim w) k s z u heads n x.start (own_size x) v.done gl yl (omega (arith, at_heads v.at h x e)) o
    (d ∙ ap₂ (λ (j b : ℕ). put_mid heads n s (mid_of j b w)) v.at.slots_at g) (f ∙ ap (put_mid x.start (own_size x) z) m) in
    record { at = at_next v.at h x e p q pe qe; long = t.1 ∙ v.long; done = ap (λ (j : ℕ). take j u) pe ∙ t.0 }

-- all are
pub saves_end : {lim : Limits} {w s₀ s : List ℕ} {heads slots k : ℕ} → Saves lim w s₀ s heads slots k → 8 ≤ k → take (heads_before lim 8) s ≡ in_turn (worked_gap lim w) (saved_run lim w) 8
saves_end {lim} {w} {s₀} {s} {heads} {slots} {k} v h =
    let e : k ≡ 8 = omega (arith, v.at.inside) in
    ap (λ (j : ℕ). take j s) (sym (v.at.heads_at ∙ ap (heads_before lim) e)) ∙ v.done ∙ ap (in_turn (worked_gap lim w) (saved_run lim w)) e

-- ---- the texts of all tables

-- one run more of bytes, one behind another
flat_next : {A : Type 0} (f : A → List ℕ) (xs : List A) (k : ℕ) (d : A) → k < length xs → flat (map f (take (suc k) xs)) ≡ flat (map f (take k xs)) ++ f (get_or xs k d)
flat_next f [] k d h = absurd (not-suc-le-zero h)
flat_next f (x ∷ xs) zero d h = append-nil (f x)
flat_next f (x ∷ xs) (suc k) d h = ap (λ (l : List ℕ). f x ++ l) (flat_next f xs k d (le_of_suc-le-suc h)) ∙ sym (append_assoc (f x) (flat (map f (take k xs))) (f (get_or xs k d)))

flat_more : {A : Type 0} (f : A → List ℕ) (xs : List A) (k : ℕ) (d : A) → k < length xs → flat (map f (take (k + 1) xs)) ≡ flat (map f (take k xs)) ++ f (get_or xs k d)
flat_more f xs k d h = ap (λ (j : ℕ). flat (map f (take j xs))) (add-one k) ∙ flat_next f xs k d h

-- those of the first k are saved
pub record Gathers (lim : Limits) (w a₀ a : List ℕ) (place k : ℕ) : Type 0 where
  pub inside : k ≤ 8
  pub place_at : place ≡ 2 * sum (map (slots_units w) (take k (text_runs lim)))
  pub room : place ≤ length a₀
  pub long : length a ≡ length a₀
  pub done : take place a ≡ flat (map (texts_in_slots w) (take k (text_runs lim)))

-- at the start none is
pub gathers_start : (lim : Limits) (w a : List ℕ) → Gathers lim w a a 0 0
gathers_start lim w a = record { inside = omega arith; place_at = refl; room = omega arith; long = refl; done = refl }

module _ {lim : Limits} {w a₀ a : List ℕ} {place k : ℕ} (v : Gathers lim w a₀ a place k) where
  module _ (h : k < 8) (x : Run) (e : x ≡ run_of lim k) (l : SumIn lim w (length a₀)) where
    -- those of the next have room
    pub gathers_room : next_text x w place ≤ length a₀
    unfolding SumIn
    gathers_room = subst⁻¹ (λ (p : ℕ). p + 2 * slots_units w x ≤ length a₀) v.place_at (sum_fits (slots_units w) (text_runs lim) k no_run x (length a₀) h e l)

    -- and are saved
    pub gathers_more : (r : ℕ) (b : List ℕ) → length b ≡ length a → (r ≡ next_text x w place) × (take r b ≡ take place a ++ texts_in_slots w x) → Gathers lim w a₀ b r (k + 1)
    gathers_more r b m c = record {
      inside = omega arith;
      place_at = c.0 ∙ ap₂ (λ (i j : ℕ). i + 2 * j) v.place_at (ap (slots_units w) e) ∙ twice _ _ ∙ ap (λ (j : ℕ). 2 * j) (sym (sum_more (slots_units w) (text_runs lim) k no_run h));
      room = subst⁻¹ (λ (j : ℕ). j ≤ length a₀) c.0 gathers_room;
      long = m ∙ v.long;
      done = c.1 ∙ ap₂ (λ (y z : List ℕ). y ++ z) v.done (ap (texts_in_slots w) e) ∙ sym (flat_more (texts_in_slots w) (text_runs lim) k no_run h);
    }
      where
        twice : (i j : ℕ) → 2 * i + 2 * j ≡ 2 * (i + j)
        twice i j = omega arith

  -- all are, and what stands behind them was wiped
  pub gathers_end : 8 ≤ k → (y : List ℕ) → y ≡ replicate (length (mid_of place (length a - place) a)) 0 → IsArea lim w (length a₀) (put_mid place (length a - place) a y)
  unfolding IsArea
  gathers_end h y z =
      let e : k ≡ 8 = omega (arith, v.inside) in
      let p : place ≤ length a = subst⁻¹ (λ (j : ℕ). place ≤ j) v.long v.room in
      let t : take place a ≡ flat (map (texts_in_slots w) (text_runs lim)) = v.done ∙ ap (λ (j : ℕ). flat (map (texts_in_slots w) (take j (text_runs lim)))) e in
      filled (flat (map (texts_in_slots w) (text_runs lim))) p t
    where
      filled : (f : List ℕ) → place ≤ length a → take place a ≡ f → put_mid place (length a - place) a y ≡ pad 0 (length a₀) f
      filled f p t =
          let l : length f ≡ place = ap length (sym t) ∙ length-take-le place a p in
          let m : length a - place ≡ length a₀ - length f = ap₂ (λ (i j : ℕ). i - j) v.long (sym l) in
          wiped_behind a y place p z ∙ ap₂ (λ (g : List ℕ) (j : ℕ). g ++ replicate j 0) (t ∙ sym (take_all (length a₀) f (subst⁻¹ (λ (j : ℕ). j ≤ length a₀) l v.room))) m ∙ sym (pad_is 0 (length a₀) f)
