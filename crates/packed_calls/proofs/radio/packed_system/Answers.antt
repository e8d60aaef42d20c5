use Rattle.packing.proofs.ValueBits.{system_packed}
use Rattle.packed_calls.proofs.radio.packed_system.Goals as goal

pub returns : goal.returns
returns c =
    let x = c.system_in-answer in
    system_packed _ _ x.result c.pack_system.result x.ensures c.pack_system.ensures
