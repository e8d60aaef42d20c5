use Rattle.working.proofs.CopyLaws.{whole_saved, never_saved, part_saved}
use Rattle.working.proofs.copies.save_copy.Goals as goal

pub returns-in-Whole : goal.returns-in-Whole
returns-in-Whole c =
    let a = c.args in
    let k = c.save in
    whole_saved a.limits a.copy c.in-Whole.is a.work.now a.store.now k.new.store k.ensures

pub returns-in-Placed : goal.returns-in-Placed
returns-in-Placed c =
    let a = c.args in
    never_saved a.limits a.copy c.in-Part.kind c.in-Part.is c.in-Placed.is a.work.now a.store.now _

pub returns-in-Shared : goal.returns-in-Shared
returns-in-Shared c =
    let a = c.args in
    let k = c.save_part in
    part_saved a.limits a.copy c.in-Part.kind c.in-Shared.area c.in-Part.is c.in-Shared.is a.work.now a.store.now k.new.store k.ensures
