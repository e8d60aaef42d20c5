use Rattle.working.proofs.ChunkLaws.{chunk_wiped}
use Rattle.working.proofs.parts.wipe_chunk.Goals as goal

pub returns : goal.returns
returns c =
    let a = c.args in
    chunk_wiped a.dst.now c.wipe.new.s a.to c.requires c.wipe.ensures
