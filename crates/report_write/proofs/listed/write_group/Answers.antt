use Rattle.lists.proofs.Kit.{arith}
use Rattle.report_write.proofs.ListedItems.{group_writes}
use Rattle.report_write.proofs.listed.write_group.Goals as goal

pub overflow_add-head : goal.overflow_add-head
overflow_add-head c = omega (arith, c.shared_slice_known-5-1.given 0)

pub returns : goal.returns
returns c =
    let a = c.args in
    let v = c.put_headed in
    group_writes a.slot.now a.buffer.now v.new.buffer a.rank v.result c.requires.1 v.ensures
