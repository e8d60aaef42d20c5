use Rattle.lists.proofs.Kit.{◌≡◌, ◌≤◌, ◌<◌, ◌*◌, ◌^◌}
use Rattle.writing.specs.Ranges.{InNumber}
use Rattle.writing.specs.Settings.{Number}
use Rattle.tables.specs.Layout.{digit_bytes}
use Rattle.read_deeds.proofs.CodeLaws.{CodeLeft}
use Rattle.read_deeds.proofs.codes.kept_code.Given as goal

-- The loop's invariant: the code of the digits that were read is small, and the others are left, whichever they are.
abbrev pub invariant-loop-i : goal.invariant-loop-i
invariant-loop-i l = (l.i ≤ 18) × (l.code < 2 * 10 ^ l.i) × ((ds : Number) → InNumber ds → l.kept ≡ digit_bytes ds → CodeLeft l.kept l.code l.i ds)
