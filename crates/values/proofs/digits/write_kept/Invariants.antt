use Rattle.lists.proofs.Kit.{◌≡◌}
use Rattle.writing.specs.Ranges.{InNumber}
use Rattle.writing.specs.Settings.{Number}
use Rattle.tables.specs.Layout.{digit_bytes}
use Rattle.values.proofs.DigitLaws.{WrittenSoFar}
use Rattle.values.proofs.digits.write_kept.Given as goal

-- The loop's invariant: the first i digits are written, whichever they are.
abbrev pub invariant-loop-i : goal.invariant-loop-i
invariant-loop-i l = (ds : Number) → InNumber ds → l.kept ≡ digit_bytes ds → WrittenSoFar ds l.initial.buffer l.buffer l.i
