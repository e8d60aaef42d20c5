use Rattle.lists.proofs.Kit.{rules}
use Rattle.store_places.proofs.overwriting.set_slot.Goals as goal

pub returns-in-Add : goal.returns-in-Add
returns-in-Add c = rw c.in-Add.is c.put_slot.ensures

pub returns-in-Delete : goal.returns-in-Delete
returns-in-Delete c = rw c.in-Delete.is c.wipe.ensures

pub returns-in-Replace : goal.returns-in-Replace
returns-in-Replace c = rw c.in-Replace.is c.put_slot-in-Replace.ensures
