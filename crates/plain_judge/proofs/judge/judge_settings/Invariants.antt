use Rattle.lists.proofs.Kit.{◌≤◌, ◌≡◌, List, length}
use Rattle.events.specs.Deeds as D
use Rattle.tables.specs.Tables.{Tables}
use Rattle.plain_judge.specs.Judging.{Weights, Logged}
use Rattle.plain_judge.proofs.JudgeLaws.{Going}
use Rattle.plain_judge.proofs.judge.judge_settings.Given as goal

abbrev pub invariant-loop-taken : goal.invariant-loop-taken
invariant-loop-taken l =
    (length l.weights ≡ length l.initial.weights) × (l.taken ≤ l.request.count)
    × ((ds : List D.Deed) (was : Tables) → Logged l.log l.logged ds was → Weights l.initial.weights was → Going l.m l.request ds was l.p l.taken l.passed l.weights l.item)
