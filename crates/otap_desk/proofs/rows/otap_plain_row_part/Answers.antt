use borrow.Author.Rules.{rules}
use Rattle.packing_desk.proofs.DeskBits.{plain_parts_packed}
use Rattle.otap_desk.proofs.rows.otap_plain_row_part.Goals as goal

pub returns : goal.returns
returns c =
    let s = c.args in
    let w = c.row_of-which in
    let x = c.row_place-place in
    plain_parts_packed s.table s.row _ _ _ w.ensures _ x.result c.pack_place.result x.ensures.allowed c.pack_place.ensures
