use Rattle.packing.proofs.ValueBits.{key_packed}
use Rattle.packed_calls.proofs.radio.packed_key.Goals as goal

pub returns : goal.returns
returns c =
    let x = c.key_in-answer in
    key_packed _ _ x.result c.pack_key.result x.ensures c.pack_key.ensures
