use Rattle.lists.proofs.Kit.{arith}
use Rattle.plain_look.proofs.LookLaws.{look_on, look_ends}
use Rattle.plain_look.proofs.look.look.Goals as goal

pub loop-i-preserved : goal.loop-i-preserved
loop-i-preserved c =
    let a = c.args in
    let l = c.loop-i in
    look_on _ a.first a.count a.kind a.key a.cursor a.known l.here l.now_known c.know-now_known.result c.next_deed-moved.result l.i (omega arith) c.next_deed-moved.ensures
    c.know-now_known.ensures l.invariant

pub returns : goal.returns
returns c =
    let a = c.args in
    let l = c.loop-i in
    look_ends _ a.first a.count a.kind a.key a.cursor a.known l.here l.now_known l.i (omega arith) l.invariant
