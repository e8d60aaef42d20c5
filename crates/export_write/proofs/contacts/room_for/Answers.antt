use Rattle.lists.proofs.Kit.{refl, arith}
use Rattle.export_write.proofs.contacts.room_for.Goals as goal

pub returns-in-OfGroups : goal.returns-in-OfGroups
returns-in-OfGroups c = rw c.in-OfGroups.is (refl, omega arith)

pub returns-in-OfIndividuals : goal.returns-in-OfIndividuals
returns-in-OfIndividuals c = rw c.in-OfIndividuals.is (refl, omega arith)
