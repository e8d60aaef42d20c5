use Rattle.lists.proofs.Kit.{rules}
use Rattle.slots.proofs.Runs.{padded_done}
use Rattle.slots.proofs.bytes.copy_padded.Goals as goal

pub returns : goal.returns
returns c =
    let a = c.args in
    let t = c.copy in
    let u = c.wipe in
    padded_done a.src.now a.dst.now t.new.dst u.new.s c.min-n.result (search rules) t.ensures u.ensures
