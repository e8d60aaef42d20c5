use Rattle.plain.proofs.ReplyLaws.{accepted}
use Rattle.plain.proofs.replying.accept.Goals as goal

pub returns : goal.returns
returns c =
    let a = c.args in
    λ big. accepted a.m.now a.flags a.place _ a.reply.now _ _ c.hash_bytes-hash.ensures (c.write_reply-length.ensures big)
