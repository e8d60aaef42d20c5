-- The units before a row's text: those of the tables before its own, and of the rows before it there. Assumes nothing.
use Rattle.lists.proofs.Kit.{ℕ, ◌+◌, ◌≤◌, ◌<◌, ◌≡◌, sym, ap, ap₂, ◌∙◌, subst, List, map, arith, take}
use native.Mathlib.Nat.{one-mul}
use Rattle.slots.specs.Slots.{sum}
use Rattle.tables.specs.declared.limits.Limits.{Limits}
use Rattle.shared_texts.specs.declared.Run.{Run}
use Rattle.shared_texts.specs.Shared.{text_runs, run_units, counted_before}
use Rattle.working.specs.Areas.{InHeads}
use Rattle.working.specs.Runs.{run_of}
use Rattle.working.proofs.CountLaws.{Summing, sum_start, sum_step}

-- a table has as many rows as are before one of its rows
pub rows_before : {lim : Limits} {s : List ℕ} {k n : ℕ} {x : Run} → InHeads lim s k n → x ≡ run_of lim k → n ≤ x.many
rows_before {n = n} h e = subst (λ (y : Run). n ≤ y.many) (sym e) h.place

-- the units of a table
abbrev pub table_units : List ℕ → Run → ℕ
table_units s x = run_units s x.many x

-- the first i of k tables are counted
pub record Counting (lim : Limits) (s : List ℕ) (k r i : ℕ) : Type 0 where
  pub inside : i ≤ k
  pub summing : Summing lim (table_units s) 1 65025 r i

-- none is
pub count_start : (lim : Limits) (s : List ℕ) (k : ℕ) → Counting lim s k 0 0
count_start lim s k = record { inside = omega arith; summing = sum_start lim (table_units s) 1 65025 }

module _ {lim : Limits} {s : List ℕ} {k r i : ℕ} (v : Counting lim s k r i) where
  -- one more
  pub count_more : (x : Run) (n : ℕ) → i < k → k < 8 → x ≡ run_of lim i → (n ≡ run_units s x.many x) × (n ≤ 65025) → Counting lim s k (r + n) (i + 1)
  count_more x n h l e c = record { inside = omega arith; summing = sum_step v.summing x n (omega arith) e (c.0 ∙ sym (one-mul (table_units s x))) c.1 }

  -- BEFORE COUNTED: all are, and then the rows before the row
  pub before_counted : (n m : ℕ) (x : Run) → k ≤ i → x ≡ run_of lim k → (m ≡ run_units s n x) × (m ≤ 65025)
      → (r + m ≡ counted_before s (text_runs lim) k n) × (r + m ≤ 585225)
  before_counted n m x h d c =
      let e : i ≡ k = omega (arith, v.inside) in
      let l : r ≡ sum (map (table_units s) (take k (text_runs lim))) = v.summing.counted ∙ one-mul _ ∙ ap (λ (j : ℕ). sum (map (table_units s) (take j (text_runs lim)))) e in
      (ap₂ (λ (i j : ℕ). i + j) l (c.0 ∙ ap (run_units s n) d), omega (arith, v.summing.small, v.summing.inside, c.1))
