use Rattle.lists.proofs.Kit.{arith}
use Rattle.reporting.proofs.TableLaws.{size_is}
use Rattle.reporting.proofs.walk.place_size.Goals as goal

pub returns : goal.returns
returns c =
    let a = c.args in
    let w = c.write_place in
    size_is a.limits a.asked a.work.now a.place a.rank _ w.new.scratch w.result (omega arith) w.ensures
