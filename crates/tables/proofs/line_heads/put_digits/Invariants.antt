use Rattle.lists.proofs.Kit.{◌≡◌, length}
use Rattle.tables.proofs.DigitLaws.{DigitsSoFar}
use Rattle.tables.proofs.line_heads.put_digits.Given as goal

abbrev pub invariant-loop-i : goal.invariant-loop-i
invariant-loop-i l = (length l.dst ≡ length l.initial.dst) × DigitsSoFar l.m l.place l.initial.dst l.i l.dst
