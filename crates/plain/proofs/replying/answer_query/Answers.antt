use Rattle.lists.proofs.Kit.{inl, inr}
use Rattle.plain.proofs.ReplyLaws.{queried}
use Rattle.plain.proofs.replying.answer_query.Goals as goal
use Rattle.plain.proofs.replying.answer_query.Goals.{then-same_hash, else-same_hash}

pub returns : goal.returns
returns c =
    let a = c.args in
    let k = c.same_hash in
    λ big. queried a.m.now a.place a.area.now a.kept _ a.reply.now _ c.if-same_hash.result c.result_number.result _ k.result c.hash_bytes-hash.ensures k.ensures (elim c.if-same_hash.branch [ then-same_hash w ↦ inl (w.if-same_hash.true, w.result-is) | else-same_hash w ↦ inr (w.if-same_hash.false, w.result-is) ]) c.result_number.ensures (c.write_reply-length.ensures big)
