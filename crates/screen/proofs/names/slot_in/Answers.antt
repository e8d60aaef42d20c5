use Rattle.lists.proofs.Kit.{arith}
use Rattle.screen.proofs.SlotLaws.{slot_within}
use Rattle.screen.proofs.names.slot_in.Goals as goal

-- `screen::names::slot_in` meets its contract. Assumes nothing.
pub overflow_mul-start : goal.overflow_mul-start
overflow_mul-start c = let a = c.args in omega (arith, slot_within a.n a.places a.width (omega arith))

pub overflow_add-start : goal.overflow_add-start
overflow_add-start c = let a = c.args in omega (arith, slot_within a.n a.places a.width (omega arith))

pub overflow_add-result : goal.overflow_add-result
overflow_add-result c = let a = c.args in omega (arith, slot_within a.n a.places a.width (omega arith))

pub overflow_add-result-then-n-places : goal.overflow_add-result-then-n-places
overflow_add-result-then-n-places c = let a = c.args in omega (arith, slot_within a.n a.places a.width (omega arith))
