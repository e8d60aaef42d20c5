use Rattle.working.proofs.CopyLaws.{copy_whole, copy_never, copy_part}
use Rattle.working.proofs.copies.load_copy.Goals as goal

pub returns-in-Whole : goal.returns-in-Whole
returns-in-Whole c =
    let a = c.args in
    let k = c.load in
    copy_whole a.limits a.copy c.in-Whole.is a.store.now a.work.now k.new.work k.ensures

pub returns-in-Placed : goal.returns-in-Placed
returns-in-Placed c =
    let a = c.args in
    copy_never a.limits a.copy c.in-Part.kind c.in-Part.is c.in-Placed.is a.store.now a.work.now _

pub returns-in-Shared : goal.returns-in-Shared
returns-in-Shared c =
    let a = c.args in
    let k = c.load_part in
    copy_part a.limits a.copy c.in-Part.kind c.in-Shared.area c.in-Part.is c.in-Shared.is a.store.now a.work.now k.new.work k.ensures
