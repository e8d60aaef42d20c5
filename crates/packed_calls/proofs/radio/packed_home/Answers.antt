use Rattle.packing.proofs.ValueBits.{home_packed}
use Rattle.packed_calls.proofs.radio.packed_home.Goals as goal

pub returns : goal.returns
returns c =
    let x = c.home_in-answer in
    home_packed _ _ x.result c.pack_home.result x.ensures c.pack_home.ensures
