use Rattle.packing.proofs.ValueBits.{digits_packed}
use Rattle.packed_calls.proofs.entries.packed_digits.Goals as goal

pub returns : goal.returns
returns c =
    let s = c.args in
    let w = c.row_of-row in
    let x = c.digits_in-answer in
    digits_packed _ s.table s.index _ _ w.ensures _ _ x.result c.pack_digits.result x.ensures c.pack_digits.ensures
