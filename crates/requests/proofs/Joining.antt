-- Runs one after another: over any settings, tables and writing. Assumes nothing.
use Rattle.lists.proofs.Kit.{ℕ, ◌+◌, ◌≡◌, ap, ◌∙◌, subst, List, ◌++◌, append_assoc, Option, arith, length}
use Rattle.lists.specs.Every.{All}
use Rattle.requests.specs.Judge as Judge
use Rattle.requests.specs.Judge.{done, step}

module _ (Setting Tables : Type 0)
    (Written : Setting → List ℕ → Type 0)
    (InRange : ℕ → Setting → Type 0)
    (apply : Setting → Tables → Option Tables)
    (known : ℕ → Type 0)
  where
    abbrev Runs : ℕ → Tables → List ℕ → List Setting → Tables → List ℕ → Type 0
    Runs = Judge.Runs Setting Tables Written InRange apply known

    -- THEN RUN: a run goes on where another ended, with as many settings counted as are left
    pub then_run : {n : ℕ} {t u v : Tables} {bs mid rest : List ℕ} {a b : List Setting} (left : ℕ)
        → Runs n t bs a u mid → length a + left ≡ n → Runs left u mid b v rest → Runs n t bs (a ++ b) v rest
    then_run {t} {v} {bs} {rest} {b} left done e q = subst (λ (i : ℕ). Runs i t bs b v rest) (omega arith) q
    then_run left (step {w = w} {s = s} p x i a q) e r = step {w = w} {s = s} p x i a (then_run left q (omega arith) r)

    -- WIDEN: settings that are in range wherever they stand run the same where more are counted and more bytes follow
    pub widen : (Plain : Setting → Type 0) → ((s : Setting) (n k : ℕ) → Plain s → InRange n s → InRange k s)
        → {n : ℕ} {t u : Tables} {bs rest : List ℕ} {l : List Setting} (k : ℕ) (more : List ℕ)
        → All Plain l → Runs n t bs l u rest → Runs (n + k) t (bs ++ more) l u (rest ++ more)
    widen Plain anywhere k more p done = done
    widen Plain anywhere {t} {u} {bs} {rest} {l} k more p (step {n} {w = w} {r = r} {s = s} e x i a q) =
        subst (λ (j : ℕ). Runs j t (bs ++ more) l u (rest ++ more)) (omega arith)
        (step {w = w} {s = s} (ap (λ y. y ++ more) e ∙ append_assoc w r more) x (anywhere s n (n + k) p.0 i) a
        (widen Plain anywhere k more p.1 q))
