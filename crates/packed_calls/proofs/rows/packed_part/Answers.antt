use Rattle.packing.proofs.RowBits.{shows_packed}
use Rattle.packed_calls.proofs.rows.packed_part.Goals as goal

pub returns : goal.returns
returns c =
    let s = c.args in
    let w = c.row_of-which in
    let x = c.place_in-place in
    λ ok. shows_packed _ s.table s.row _ _ _ w.ensures ok _ x.result c.pack_place.result x.ensures.allowed c.pack_place.ensures
