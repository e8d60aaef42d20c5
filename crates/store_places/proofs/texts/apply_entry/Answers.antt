use Rattle.lists.proofs.Kit.{rules, arith}
use Rattle.store_places.proofs.TextTables.{quick_stepped, code_outside, status_stepped}
use Rattle.store_places.proofs.texts.apply_entry.Goals as goal

pub returns-then-place-lt32 : goal.returns-then-place-lt32
returns-then-place-lt32 c =
    let a = c.args in
    rw c.in-Status.is (code_outside a.m.now a.operation a.place a.region.now a.region.now (omega arith))

pub returns-in-Quick : goal.returns-in-Quick
returns-in-Quick c =
    let a = c.args in
    let y = c.set_place in
    rw c.in-Quick.is (quick_stepped a.m.now a.operation a.place a.region.now y.new.region y.ensures)

pub returns-else-place-lt32 : goal.returns-else-place-lt32
returns-else-place-lt32 c =
    let a = c.args in
    let y = c.set_place-in-Status in
    rw c.in-Status.is (status_stepped a.m.now a.operation a.place a.region.now y.new.region y.ensures)
