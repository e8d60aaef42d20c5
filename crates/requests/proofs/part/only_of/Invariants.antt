use Rattle.lists.proofs.Kit.{◌≤◌}
use Rattle.requests.proofs.KindLaws.{UpTo}
use Rattle.requests.proofs.part.only_of.Given as goal

abbrev pub invariant-loop-seen : goal.invariant-loop-seen
invariant-loop-seen l = (l.seen ≤ l.request.count) × UpTo l.request.coding l.kind l.m l.request.count l.request.at l.seen l.p
