use Rattle.lists.proofs.Kit.{rules, arith, ℕ, ◌≡◌, refl, ◌∙◌, ◌≤◌, length, length-set, List}
use Rattle.tables.proofs.AnswerLaws.{refused, granted}
use Rattle.store_check.specs.Checks.{Filled}
use Rattle.store_check.proofs.DistinctLaws.{Behind, distinct_start, distinct_more, distinct_stop, distinct_end}
use Rattle.store_check.proofs.checks_lists.keys_distinct.Given as goal

abbrev pub invariant-loop-at : goal.invariant-loop-at
invariant-loop-at l = (l.at ≤ l.end) × (l.end ≤ length l.s) × (length l.seen ≡ 1024) × ((n : ℕ) (xs : List (List ℕ)) → Filled l.w n xs l.s → Behind l.w l.o l.k xs l.at l.seen)

abbrev pub decreases-loop-at : goal.decreases-loop-at
decreases-loop-at l = l.at
