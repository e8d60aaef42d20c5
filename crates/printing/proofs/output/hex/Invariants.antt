use Rattle.std.proofs.Common.{take}
use Rattle.std.specs.Io.KnownBytes.{Appends}
use Rattle.printing.specs.Hex.{spaced}
use Rattle.printing.proofs.output.hex.Given as goal

abbrev pub invariant-loop-b : goal.invariant-loop-b
invariant-loop-b g l =
    Appends (g.W.Write.contents l.fn.out) (g.W.Write.contents l.out) (spaced (take l.b-index l.b-items))
