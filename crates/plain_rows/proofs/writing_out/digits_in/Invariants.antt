use Rattle.lists.proofs.Kit.{◌≤◌}
use Rattle.plain_rows.proofs.LineDigits.{OffSoFar}
use Rattle.plain_rows.proofs.writing_out.digits_in.Given as goal

-- `plain_rows::writing_out::digits_in` meets its contract. The loop's invariant: n digits are taken off, whichever they are. Assumes nothing.
abbrev pub invariant-loop-n : goal.invariant-loop-n
invariant-loop-n l = (l.n ≤ 18) × OffSoFar l.code l.rest l.n
