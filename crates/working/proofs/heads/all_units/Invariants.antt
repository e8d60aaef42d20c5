use Rattle.shared_texts.specs.Shared.{run_units}
use Rattle.working.proofs.CountLaws.{Summing}
use Rattle.working.proofs.heads.all_units.Given as goal

abbrev pub invariant-loop-k : goal.invariant-loop-k
invariant-loop-k l = Summing l.limits (λ x. run_units l.store x.many x) 1 65025 l.sum l.k
