use Rattle.lists.proofs.Kit.{◌≡◌, length}
use Rattle.writing.specs.Ranges.{InNumber}
use Rattle.writing.specs.Settings.{Number}
use Rattle.tables.specs.Layout.{digit_bytes}
use Rattle.screen.proofs.NumberLaws.{DigitsSoFar}
use Rattle.screen.proofs.numbers.write_line.Given as goal

-- `screen::numbers::write_line` meets its contract. The loop's invariant: the first i digits are written, whichever they are. Assumes nothing.
abbrev pub invariant-loop-i : goal.invariant-loop-i
invariant-loop-i l =
    (length l.scratch ≡ length l.initial.scratch) × ((ds : Number) → InNumber ds → l.kept ≡ digit_bytes ds → DigitsSoFar l.kept l.initial.scratch l.scratch l.i ds)
