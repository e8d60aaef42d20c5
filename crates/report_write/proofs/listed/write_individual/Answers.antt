use Rattle.report_write.proofs.ListedItems.{individual_writes}
use Rattle.report_write.proofs.listed.write_individual.Goals as goal

pub returns : goal.returns
returns c =
    let a = c.args in
    let v = c.put_headed in
    individual_writes a.slot.now a.buffer.now v.new.buffer a.rank v.result c.requires.1 v.ensures
