-- What is read of a store has its tables. Assumes nothing.
use Rattle.lists.proofs.Kit.{ℕ, ◌≡◌, ap, ◌∙◌, subst⁻¹, List, length}
use Rattle.tables.specs.declared.limits.Limits.{Limits}
use Rattle.tables.specs.declared.limits.Texts.{Texts}
use Rattle.tables.specs.declared.limits.Texts.TheVariants.{Placed, Shared}
use Rattle.tables.specs.Forms.{laid, Roomy}
use Rattle.tables.specs.Store.{Holds, Works, Loaded}
use Rattle.tables.specs.Tables.{Tables}
use Rattle.tables.proofs.AllowedLaws.{allowed_placed}
use Rattle.working.specs.Seen.{LendsIn, Lends, Seen, seen_of, Filled}

module _ (lim : Limits) (store work after r : List ℕ) (size : length store ≡ lim.size) (roomy : Roomy lim) (same : length after ≡ length work) where
  -- SEEN: the store itself, or the working copy that was loaded
  pub seen : Lends lim work → Filled lim.texts lim store work after → r ≡ seen_of lim.texts store after → Seen lim store r
  seen = go lim.texts (λ t h. h.1)
    where
      go : (x : Texts) → ((t : Tables) → Holds lim t store → store ≡ laid x lim t) → LendsIn x lim.size work → Filled x lim store work after → r ≡ seen_of x store after → Seen lim store r
      go Placed is l f e = (ap length e ∙ size, λ t h. (allowed_placed lim t h.0, e ∙ is t h))
      go (Shared a) is l f e = (ap length e ∙ same ∙ l, λ t h. let w : Works lim t after = f l t roomy h in (w.0, e ∙ w.1))

-- FILLED: nothing is loaded where the store is read
pub filled_placed : (lim : Limits) (store work after : List ℕ) → lim.texts ≡ Placed → Filled lim.texts lim store work after
filled_placed lim store work after e = subst⁻¹ (λ (x : Texts). Filled x lim store work after) e tt

-- and elsewhere what loading says is so
pub filled_shared : (lim : Limits) (store work after : List ℕ) (a : ℕ) → lim.texts ≡ Shared a → Loaded lim store work after → Filled lim.texts lim store work after
filled_shared lim store work after a e l = subst⁻¹ (λ (x : Texts). Filled x lim store work after) e l

-- LENDS: as many bytes as a store has are enough
pub lends : (lim : Limits) (work : List ℕ) → length work ≡ lim.size → Lends lim work
lends lim work e = go lim.texts
  where
    go : (x : Texts) → LendsIn x lim.size work
    go Placed = tt
    go (Shared a) = e
