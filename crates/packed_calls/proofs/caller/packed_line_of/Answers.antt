use Rattle.packing.proofs.CallerBits.{looks_packed}
use Rattle.packed_calls.proofs.caller.packed_line_of.Goals as goal

pub returns : goal.returns
returns c =
    let x = c.line_of_in-answer in
    looks_packed _ _ _ _ x.result c.pack_caller.result x.ensures c.pack_caller.ensures
