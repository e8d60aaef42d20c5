use Rattle.std.proofs.Common.{◌≡◌, ℕ, List, ◌*◌, length}
use Rattle.std.specs.Io.KnownBytes.{Consumes}
use Rattle.records.proofs.pass_over.Given as goal

abbrev pub invariant-loop : goal.invariant-loop
invariant-loop g l =
    (length l.chunk ≡ 4096) × (bs : List ℕ) × (length bs ≡ l.counter * 4096)
    × Consumes (g.R.Read.remaining l.fn.input) (g.R.Read.remaining l.input) bs
