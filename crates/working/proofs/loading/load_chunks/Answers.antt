use Rattle.working.proofs.ChunkLaws.{slot_chunked}
use Rattle.working.proofs.loading.load_chunks.Goals as goal

pub returns : goal.returns
returns c = λ room h k.
    let a = c.args in
    let o = c.copy_run in
    let t = c.move_chunk in
    let z = c.wipe_chunk in
    slot_chunked a.slots.now a.heads.now a.area.now a.to a.at a.place a.own a.bytes room c.requires.1 o.new.dst t.new.dst z.new.dst c.requires.0 c.requires.2 h k o.ensures t.ensures z.ensures
