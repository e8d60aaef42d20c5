use Rattle.lists.proofs.Kit.{arith, refl}
use Rattle.orders.proofs.ListLaws.{unfound, entry_found}
use Rattle.orders.proofs.search.find_entry.Goals as goal
use Rattle.orders.proofs.search.find_entry.Goals.{then-part-n-via-then-part-n, then-part-n-via-else-part-n+then-part-n-lt2}

-- `orders::search::find_entry` meets its contract. Assumes nothing.
pub returns-then-part-n : goal.returns-then-part-n
returns-then-part-n c = let a = c.args in unfound a.w a.o a.n a.key.now a.part.now (elim c.then-part-n.branch [ then-part-n-via-then-part-n w ↦ omega arith | then-part-n-via-else-part-n+then-part-n-lt2 w ↦ omega arith ])

pub returns : goal.returns
returns c =
    let a = c.args in
    let h = c.count-held in
    entry_found a.w a.o a.n a.key.now a.part.now _ h.result refl h.ensures c.find.result c.find.ensures
