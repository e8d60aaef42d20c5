use Rattle.report_write.proofs.ListedItems.{status_writes}
use Rattle.report_write.proofs.listed.write_status.Goals as goal

pub returns : goal.returns
returns c =
    let a = c.args in
    let v = c.put_headed in
    status_writes a.slot.now a.buffer.now v.new.buffer a.place a.rank v.result c.requires.1 v.ensures
