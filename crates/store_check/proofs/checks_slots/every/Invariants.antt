use Rattle.lists.proofs.Kit.{◌≡◌, ℕ, ◌*◌, length}
use Rattle.store_check.specs.declared.checks_tables.Table.{Table}
use Rattle.store_check.specs.declared.forms.Form.{Form}
use Rattle.store_check.specs.Checks.{width_in, Tells}
use Rattle.store_check.proofs.TableChecks.{RestIn}
use Rattle.store_check.proofs.checks_slots.every.Given as goal

abbrev pub invariant-loop-slot : goal.invariant-loop-slot
invariant-loop-slot g l =
    (l.slot-iterator.size ≡ g.row.W)
    × ((f : Form) (t : Table) (n : ℕ) → g.row.W ≡ width_in f t → Tells (goal.F-post g l.takes) f t → length l.s ≡ n * g.row.W → RestIn f t n l.s l.slot-iterator.rest.now)
