use Rattle.lists.proofs.Kit.{◌+◌, ◌*◌, ◌^◌, ◌<◌}
use Rattle.read_fields.proofs.NumberWalk.{NumberPassed}
use Rattle.read_fields.proofs.numbers.read_number.Given as goal

abbrev pub invariant-loop-pairs : goal.invariant-loop-pairs
invariant-loop-pairs l = NumberPassed l.m l.at (l.at + l.pairs) (2 * l.pairs) × (l.at + l.pairs < 2 ^ 64)
