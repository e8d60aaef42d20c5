use Rattle.lists.proofs.Kit.{rules, ◌≤◌, ◌-◌, ◌≡◌, refl, arith, length, subst, ℕ}
use Rattle.tables.specs.Tables.{Tables}
use Rattle.updating.specs.Updating.{Both, Known}
use Rattle.updating.proofs.Parts.{known_first}
use Rattle.updating.proofs.ProposeLaws.{known_turn}
use Rattle.updating.proofs.proposing.compare_parts.Given as goal

abbrev pub invariant-loop-done : goal.invariant-loop-done
invariant-loop-done l =
    (length l.a ≡ length l.initial.a) × (length l.b ≡ length l.initial.b) × (length l.work ≡ length l.initial.work) × (l.done ≤ 10) × ((t u : Tables) → Both l.limits l.first l.second l.initial.a l.initial.b l.initial.work t u → Known t u l.done l.found)
