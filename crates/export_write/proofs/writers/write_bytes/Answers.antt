use Rattle.export_write.proofs.WroteLaws.{wrote_copied}
use Rattle.lists.proofs.Kit.{arith}
use Rattle.export_write.proofs.writers.write_bytes.Goals as goal

pub returns : goal.returns
returns c =
    let a = c.args in
    wrote_copied a.bytes.now a.at a.buffer.now c.copy.new.dst (omega arith) c.copy.ensures
