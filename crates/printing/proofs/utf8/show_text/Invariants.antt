use Rattle.std.proofs.Common.{◌≡◌, ℕ, List, ◌++◌, ◌≤◌, ◌-◌, length, drop}
use Rattle.std.specs.Io.KnownBytes.{Appends}
use Rattle.printing.specs.Utf8.{shown}
use Rattle.printing.proofs.utf8.show_text.Given as goal

abbrev pub invariant-loop-at : goal.invariant-loop-at
invariant-loop-at g l =
    (l.at ≤ length l.units) × (done : List ℕ) × (done ++ shown (drop l.at l.units) ≡ shown l.units)
    × Appends (g.W.Write.contents l.initial.out) (g.W.Write.contents l.out) done

abbrev pub decreases-loop-at : goal.decreases-loop-at
decreases-loop-at g l = length l.units - l.at
