use Rattle.lists.proofs.Kit.{rules}
use Rattle.store_places.proofs.texts.read_entry.Goals as goal

pub returns-in-Quick : goal.returns-in-Quick
returns-in-Quick c = rw c.in-Quick.is c.read_quick.ensures

pub returns-in-Status : goal.returns-in-Status
returns-in-Status c = rw c.in-Status.is c.read_status.ensures
