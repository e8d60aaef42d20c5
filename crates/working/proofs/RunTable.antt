-- The tables that have texts, by number: the code's table is that of the definitions, and each stands inside both forms. Assumes nothing.
use Rattle.lists.proofs.Kit.{ℕ, ◌≤◌, ◌<◌, ◌≡◌, sym, subst, arith, take, get_or, get_or-take}
use Rattle.lists.specs.Every.{All}
use Rattle.lists.proofs.Every.{all_get}
use Rattle.tables.specs.declared.limits.Limits.{Limits}
use Rattle.shared_texts.specs.declared.Run.{Run}
use Rattle.shared_texts.specs.Shared.{text_runs, no_run}
use Rattle.working.specs.Runs.{run_of, Small, Inside}

module _ (lim : Limits) (wide : lim.channels < 65536) (few : lim.lines ≤ 255) where
  -- each of them
  all_small : All Small (text_runs lim)
  all_small = omega arith

  all_inside : All (Inside lim) (text_runs lim)
  all_inside = omega arith

  -- and x, which is table k
  pub stands_as : (x : Run) (k : ℕ) → k < 8 → x ≡ run_of lim k → (x ≡ run_of lim k) × Small x × Inside lim x
  stands_as x k h e = (
    e,
    subst Small (sym e) (all_get Small (text_runs lim) k no_run all_small h),
    subst (Inside lim) (sym e) (all_get (Inside lim) (text_runs lim) k no_run all_inside h),
  )

-- the first seven are the same whatever the limits
pub table_run : (lim : Limits) (k : ℕ) → k < 7 → get_or (take 7 (text_runs lim)) k no_run ≡ run_of lim k
table_run lim k h = get_or-take 7 (text_runs lim) k no_run h
