use Rattle.export.proofs.PartWriting.{part_written}
use Rattle.lists.proofs.Kit.{arith}
use Rattle.export.proofs.exporting.write_part.Goals as goal

pub returns : goal.returns
returns c =
    let a = c.args in
    let k = c.span_of-span in
    let w = c.write_held in
    λ x. part_written a.limits a.work.now a.buffer.now w.new.buffer w.result x c.requires.2 a.part k.result.0 k.result.1 k.ensures.0 k.ensures.1 (omega arith) w.ensures
