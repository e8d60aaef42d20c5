-- The tables of an area: the rules allow them, and an area is that of one log and one set of tables. Assumes nothing.
use Rattle.lists.proofs.Kit.{ℕ, ◌≡◌, List}
use Rattle.writing.specs.declared.Coding.{Coding}
use Rattle.writing.specs.Settings.{Setting}
use Rattle.tables.specs.declared.limits.Limits.{Limits}
use Rattle.tables.specs.Allowed.{Allowed}
use Rattle.tables.specs.Limits.{handheld}
use Rattle.tables.specs.Tables.{Tables}
use Rattle.tables.proofs.AllowedLaws.{forget_allowed}
use Rattle.tables.proofs.FreshLaws.{fresh_allowed}
use Rattle.requests.specs.Judge.{kept, taken}
use Rattle.requests.specs.Requests.{Judged}
use Rattle.laws_taking.proofs.Demand.{run_allowed}
use Rattle.plain_log.proofs.AreaOne.{area_determined}
use Rattle.plain_log.specs.Area.{TakenInTurn, none_taken, then_taken, AreaOf}

-- ---- allowed

-- what a request leaves that is taken, the rules allow
judged_allowed : (c : Coding) (lim : Limits) {n : ℕ} {t u : Tables} {bs : List ℕ} {l : List Setting} → Judged c lim n t bs (kept l u) → Allowed lim t → Allowed lim u
judged_allowed c lim (taken e r) ok = run_allowed c lim r ok

-- and so what requests leave in turn
turn_allowed : (lim : Limits) {t u : Tables} {log : List (List ℕ)} → TakenInTurn lim t log u → Allowed lim t → Allowed lim u
turn_allowed lim none_taken ok = ok
turn_allowed lim (then_taken {t = t} x p) ok = turn_allowed lim p (judged_allowed x.coding lim x.judged (forget_allowed lim t ok))

-- AREA-ALLOWED: the tables of an area are allowed
pub area_allowed : (s : List ℕ) (log : List (List ℕ)) (t : Tables) → AreaOf s log t → Allowed handheld t
area_allowed s log t a = turn_allowed handheld a.taken (fresh_allowed handheld)

-- AREA-TABLES: an area is that of one set of tables
pub area_tables : (area : List ℕ) (log other : List (List ℕ)) (t u : Tables) → AreaOf area log t → AreaOf area other u → t ≡ u
area_tables area log other t u a b = (area_determined area log other t u a b).1
