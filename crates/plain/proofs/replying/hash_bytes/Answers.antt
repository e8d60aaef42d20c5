use Rattle.lists.proofs.Kit.{refl, replicate}
use Rattle.plain.proofs.ReplyLaws.{put_as_bytes}
use Rattle.plain.proofs.replying.hash_bytes.Goals as goal

pub returns : goal.returns
returns c =
    let a = c.args in
    put_as_bytes a.m.now a.place (replicate 11 0) _ (λ i. (c.shared_slice_known-1.given i).fits) refl c.put_hash.auto.region c.put_hash.ensures
