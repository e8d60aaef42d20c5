use native.Mathlib.Omega.{arith}
use Rattle.printing.proofs.TextLaws.{unit_stands}
use Rattle.printing.proofs.utf8.unit.Goals as goal

-- `printing::utf8::unit` meets its contract. Assumes nothing.
pub returns : goal.returns
returns c =
    let a = c.args in
    (omega arith, unit_stands a.units.now a.at c.wide.result c.wide-2.result (omega arith) c.wide.ensures.0 c.wide-2.ensures.0)
