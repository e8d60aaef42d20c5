use Rattle.report_write.proofs.ListedItems.{quick_writes}
use Rattle.report_write.proofs.listed.write_quick.Goals as goal

pub returns : goal.returns
returns c =
    let a = c.args in
    let v = c.put_headed in
    quick_writes a.slot.now a.buffer.now v.new.buffer a.place v.result c.requires.1 v.ensures
