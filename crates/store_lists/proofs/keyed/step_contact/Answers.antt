use Rattle.lists.proofs.Kit.{rules}
use Rattle.store_lists.proofs.KeyedLaws.{step_dropped}
use Rattle.store_lists.proofs.keyed.step_contact.Goals as goal

pub returns-in-Add : goal.returns-in-Add
returns-in-Add c = let k = c.put_keyed.ensures in rw c.in-Add.is (record { kept = k.kept; tried = k.tried })

pub returns-in-Delete : goal.returns-in-Delete
returns-in-Delete c =
    let a = c.args in
    let k = c.drop_contact in
    rw c.in-Delete.is (step_dropped 36 1 3 a.slot.now a.list.now k.new.list k.ensures)

pub returns-in-Replace : goal.returns-in-Replace
returns-in-Replace c = let k = c.put_keyed-in-Replace.ensures in rw c.in-Replace.is (record { kept = k.kept; tried = k.tried })
