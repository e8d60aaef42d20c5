use Rattle.shared_texts.specs.Moves.{slots_units}
use Rattle.working.proofs.CountLaws.{Summing}
use Rattle.working.proofs.sums.all_bytes.Given as goal

abbrev pub invariant-loop-k : goal.invariant-loop-k
invariant-loop-k l = Summing l.limits (slots_units l.work) 2 127500 l.sum l.k
