use Rattle.lists.proofs.Kit.{arith, inl, inr}
use Rattle.station.proofs.TakeLaws.{queried}
use Rattle.station.proofs.judge.answer_query.Goals as goal
use Rattle.station.proofs.judge.answer_query.Goals.{then-same_hash, else-same_hash}

pub returns : goal.returns
returns c =
    let a = c.args in
    let k = c.same_hash in
    queried a.m.now a.place a.store.now a.reply.now _ c.if-same_hash.result c.result_number.result _ k.result k.ensures (elim c.if-same_hash.branch [ then-same_hash w ↦ inl (w.if-same_hash.true, w.result-is) | else-same_hash w ↦ inr (w.if-same_hash.false, w.result-is) ]) c.result_number.ensures (c.write_reply-length.ensures (omega arith))
