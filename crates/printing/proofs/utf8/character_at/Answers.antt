use Prim.Native.Nat.{◌+◌}
use mathlib.Core.Path.{◌≡◌, sym, ◌∙◌}
use mathlib.Core.Bool.{true, false}
use native.Mathlib.Omega.{arith}
use Rattle.printing.specs.Utf8.{pair?}
use Rattle.printing.proofs.TextLaws.{last_read, no_unit, pair_read, one_read}
use Rattle.printing.proofs.utf8.character_at.Goals as goal

-- `printing::utf8::character_at` meets its contract. Assumes nothing.
pub returns-then-units-next-lt2 : goal.returns-then-units-next-lt2
returns-then-units-next-lt2 c =
    let a = c.args in
    let u = c.unit-first in
    (last_read _ _ u.result c.alone.result u.ensures.1 (no_unit a.units.now (a.at + 2) (omega arith)) c.alone.ensures.0, c.alone.ensures.1, omega arith, omega arith)

pub returns-then-is_pair : goal.returns-then-is_pair
returns-then-is_pair c =
    let u = c.unit-first in
    let v = c.unit-second in
    let p : pair? u.result v.result ≡ true = sym c.is_pair.ensures ∙ c.if-is_pair.true in
    (pair_read _ _ _ u.result v.result c.joined.result u.ensures.1 v.ensures.1 p c.joined.ensures.0, c.joined.ensures.1, omega arith, omega arith)

pub returns : goal.returns
returns c =
    let u = c.unit-first in
    let v = c.unit-second in
    let p : pair? u.result v.result ≡ false = sym c.is_pair.ensures ∙ c.if-is_pair.false in
    (one_read _ _ _ u.result v.result c.alone-2.result u.ensures.1 v.ensures.1 p c.alone-2.ensures.0, c.alone-2.ensures.1, omega arith, omega arith)
