use Rattle.plain_rows.proofs.LineDigits.{line_written}
use Rattle.plain_rows.proofs.writing_out.write_line.Goals as goal

pub returns : goal.returns
returns c =
    let a = c.args in
    let d = c.digits_in in
    let w = c.write_decimal in
    line_written a.code d.result a.scratch.now _ w.result d.ensures w.ensures
