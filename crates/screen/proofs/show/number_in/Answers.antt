use Rattle.screen.proofs.ShowLaws.{number_refused, number_shown}
use borrow.Enum.Refused.{opened as is_one_of}
use Rattle.screen.proofs.show.number_in.Goals as goal

pub returns-in-Refused : goal.returns-in-Refused
returns-in-Refused c =
    let a = c.args in
    let n = c.name_of-name in
    number_refused a.limits a.store.now a.scratch.now a.row n.result c.in-Refused.why c.in-Refused.is n.ensures

pub returns-in_default : goal.returns-in_default
returns-in_default c =
    let a = c.args in
    let n = c.name_of-name in
    number_shown a.limits a.store.now a.scratch.now a.row n.result (is_one_of c.in_default.in_default-own.keys2) n.ensures
