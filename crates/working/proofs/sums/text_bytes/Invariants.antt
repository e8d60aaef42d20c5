use Rattle.working.proofs.SlotLaws.{Reading}
use Rattle.working.proofs.sums.text_bytes.Given as goal

abbrev pub invariant-loop-i : goal.invariant-loop-i
invariant-loop-i l = Reading l.place l.i
