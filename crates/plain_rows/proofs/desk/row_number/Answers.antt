use Rattle.plain_rows.proofs.DeskLaws.{number_refused, number_shown}
use Rattle.plain_rows.proofs.desk.row_number.Goals as goal

pub returns-in-Err : goal.returns-in-Err
returns-in-Err c =
    let a = c.args in
    let n = c.name_of in
    number_refused a.area.now a.scratch.now a.row n.result c.in-Err.why c.in-Err.is n.ensures

pub returns-in-Ok : goal.returns-in-Ok
returns-in-Ok c =
    let a = c.args in
    let n = c.name_of in
    number_shown a.area.now a.scratch.now a.row n.result _ c.in-Ok.is n.ensures
