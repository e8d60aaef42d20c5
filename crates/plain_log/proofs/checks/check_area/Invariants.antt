use Rattle.lists.proofs.Kit.{◌-◌, ◌≡◌, length}
use Rattle.plain_log.proofs.AreaLaws.{Turn}
use Rattle.plain_log.proofs.checks.check_area.Given as goal

abbrev pub invariant-loop-at : goal.invariant-loop-at
invariant-loop-at l = (length l.weights ≡ length l.initial.weights) × Turn l.area l.initial.weights l.used l.end l.at l.deeds l.hash l.weights

abbrev pub decreases-loop-at : goal.decreases-loop-at
decreases-loop-at l = l.end - l.at
