use Rattle.lists.proofs.Kit.{arith}
use Rattle.working.proofs.ChunkLaws.{slot_exact, exact_fits}
use Rattle.working.proofs.loading.load_slot.Goals as goal

pub load_chunks-requires : goal.load_chunks-requires
load_chunks-requires c = let h = c.is_roomy.ensures.0 c.if-is_roomy.true in (omega (arith, h), c.requires.1, omega (arith, h), omega (arith, h))

pub returns-then-is_roomy : goal.returns-then-is_roomy
returns-then-is_roomy c = let h = c.is_roomy.ensures.0 c.if-is_roomy.true in c.load_chunks.ensures c.args.room h.0 h.1

pub load_exact-requires : goal.load_exact-requires
load_exact-requires c = let a = c.args in exact_fits a.slots.now a.heads.now a.to a.at a.own a.room c.requires.0 c.requires.1

pub returns : goal.returns
returns c =
    let a = c.args in
    slot_exact a.slots.now a.heads.now a.area.now a.to a.at a.place a.own a.bytes a.room c.requires.1 c.load_exact.new.slot c.requires.0 c.load_exact.ensures
