use Rattle.callers.proofs.LookupLaws.{KeySoFar}
use Rattle.callers.proofs.lookup.key_of.Given as goal

-- The loop's invariant: the key of the first i digits.
abbrev pub invariant-loop-i : goal.invariant-loop-i
invariant-loop-i l = KeySoFar l.idtype l.digits l.i l.key
