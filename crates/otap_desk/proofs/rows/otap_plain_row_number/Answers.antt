use borrow.Author.Rules.{rules}
use Rattle.packing_desk.proofs.DeskBits.{plain_numbers_packed}
use Rattle.otap_desk.proofs.rows.otap_plain_row_number.Goals as goal

pub returns : goal.returns
returns c =
    let s = c.args in
    let w = c.row_of-which in
    let x = c.row_number-answer in
    plain_numbers_packed s.table s.row s.area.now s.scratch.now _ w.ensures x.result c.number_of.result c.number_of.ensures x.ensures
