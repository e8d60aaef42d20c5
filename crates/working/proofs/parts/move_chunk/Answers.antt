use Rattle.lists.proofs.Kit.{refl, replicate}
use Rattle.working.proofs.ChunkLaws.{chunk_moved}
use Rattle.working.proofs.parts.move_chunk.Goals as goal

pub returns : goal.returns
returns c =
    let a = c.args in
    let k = c.copy in
    chunk_moved a.dst.now a.src.now (replicate 48 0) k.new.dst c.copy-2.new.dst a.to a.from c.requires.0 c.requires.1 refl k.ensures c.copy-2.ensures
