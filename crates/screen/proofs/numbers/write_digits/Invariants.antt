use Rattle.lists.proofs.Kit.{◌≡◌, length}
use Rattle.screen.proofs.NumberLaws.{DigitsLeft}
use Rattle.screen.proofs.numbers.write_digits.Given as goal

-- `screen::numbers::write_digits` meets its contract. The loop's invariant: the digits from `left` on are written. Assumes nothing.
abbrev pub invariant-loop-left : goal.invariant-loop-left
invariant-loop-left l = (length l.scratch ≡ length l.initial.scratch) × DigitsLeft l.initial.scratch l.x l.base l.n l.scratch l.left l.rest
