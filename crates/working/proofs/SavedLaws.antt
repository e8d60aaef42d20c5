-- A working copy of tables is saved as their store. Assumes nothing.
use Rattle.lists.proofs.Kit.{ℕ, ◌+◌, ◌-◌, ◌≤◌, ◌≡◌, sym, ap, ap₂, ◌∙◌, subst⁻¹, List, [], ◌∷◌, ◌++◌, append_assoc, append-nil, arith, put_mid, mid_of, length, take, replicate}
use Rattle.slots.proofs.Pads.{pad_length}
use Rattle.tables.specs.declared.limits.Limits.{Limits}
use Rattle.tables.specs.Layout.{placed_layout}
use Rattle.tables.specs.Tables.{Tables}
use Rattle.shared_texts.specs.Moves.{saved_run, saved_area, saved, work_sum}
use Rattle.tables.specs.SharedLayout.{heads_size, shared_size}
use Rattle.shared_texts.specs.Shared.{SharedOk}
use Rattle.shared_texts.proofs.WorkLaws.{work_sum_is, saved_store}
use Rattle.working.specs.Runs.{slots_before, heads_before, in_turn}
use Rattle.working.specs.Saving.{worked_gap, SumIn, IsArea, IsSaved}
use Rattle.working.specs.Working.{SavedShared}
use Rattle.working.proofs.LoadedLaws.{area_lent}
use Rattle.working.proofs.WholeLaws.{tail_put, worked_whole}

module _ (lim : Limits) (a start : ℕ) (w s₂ : List ℕ) (e : start ≡ heads_size lim) (fits : start + a ≤ length s₂) where
  -- the area as it is lent has room for the texts
  pub sum_lent : SumIn lim w a → SumIn lim w (length (mid_of start (start + a - start) s₂))
  sum_lent h = subst⁻¹ (SumIn lim w) (area_lent lim a start s₂ e fits) h

  -- it is the area of the texts
  area_is : (y : List ℕ) → IsArea lim w (length (mid_of start (start + a - start) s₂)) y → y ≡ saved_area lim a w
  unfolding IsArea
  area_is y d = d ∙ ap (λ (i : ℕ). saved_area lim i w) (area_lent lim a start s₂ e fits)

  -- the heads, the order and the area were saved, and what stands behind them was wiped
  pub all_saved : (s₁ s₃ y z : List ℕ) → length s₂ ≡ lim.size → take (heads_before lim 8) s₁ ≡ in_turn (worked_gap lim w) (saved_run lim w) 8
      → take (heads_size lim) s₂ ≡ take (heads_before lim 8) s₁ ++ mid_of (slots_before lim 8) lim.lines w → IsArea lim w (length (mid_of start (start + a - start) s₂)) y → s₃ ≡ put_mid start (start + a - start) s₂ y
      → z ≡ replicate (length (mid_of (start + a) (length s₃ - (start + a)) s₃)) 0 → IsSaved lim a w (put_mid (start + a) (length s₃ - (start + a)) s₃ z)
  unfolding IsSaved
  all_saved s₁ s₃ y z l t o d p q =
      let b : start + a - start ≡ a = omega arith in
      let yl : length y ≡ a = ap length (area_is y d) ∙ pad_length 0 a _ in
      let n : length s₂ - (start + a) ≡ lim.size - shared_size lim a = ap₂ (λ (i j : ℕ). i - (j + a)) l e in
      let x : List ℕ = mid_of (slots_before lim 8) lim.lines w in
      let h : take start s₂ ≡ in_turn (worked_gap lim w) (saved_run lim w) 8 ++ x = ap (λ (i : ℕ). take i s₂) e ∙ o ∙ ap (λ (c : List ℕ). c ++ x) t in
      tail_put s₂ y s₃ z start a yl fits (p ∙ ap (λ (i : ℕ). put_mid start i s₂ y) b) q
      ∙ ap₂ (λ (c : List ℕ) (i : ℕ). c ++ (y ++ replicate i 0)) h n
      ∙ append_assoc (in_turn (worked_gap lim w) (saved_run lim w) 8) x (y ++ replicate (lim.size - shared_size lim a) 0)
      ∙ ap₂ (λ (c r : List ℕ). in_turn (worked_gap lim w) (saved_run lim w) 8 ++ (x ++ (c ++ r))) (area_is y d) (sym (append-nil (replicate (lim.size - shared_size lim a) 0)))
      ∙ worked_whole lim w (saved_run lim w) (saved_area lim a w ∷ replicate (lim.size - shared_size lim a) 0 ∷ [])

-- ---- a working copy of tables

-- the texts of tables that the area has room for
pub sum_in : (lim : Limits) (a : ℕ) (w : List ℕ) (t : Tables) → SharedOk lim a t → w ≡ placed_layout lim t → SumIn lim w a
unfolding SumIn
sum_in lim a w t ok b = subst⁻¹ (λ (i : ℕ). i ≤ a) (ap (work_sum lim) b ∙ work_sum_is lim 0 t ok.allowed) ok.room

-- SAVED: what was saved is the store
pub saved_shared : (lim : Limits) (a : ℕ) (w s u : List ℕ) → (SumIn lim w a → IsSaved lim a w u) → SavedShared lim a w s u
unfolding IsSaved
saved_shared lim a w s u f l o t roomy shared ok b = f (sum_in lim a w t ok b) ∙ ap (saved lim a) b ∙ saved_store lim a t ok.allowed
