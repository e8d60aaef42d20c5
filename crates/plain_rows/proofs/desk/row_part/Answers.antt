use Rattle.lists.proofs.Kit.{refl}
use Rattle.screen.specs.Screen.{lent}
use Rattle.plain_rows.proofs.DeskLaws.{part_given}
use Rattle.plain_rows.proofs.desk.row_part.Goals as goal

pub returns : goal.returns
returns c =
    let a = c.args in
    part_given a.area.now (lent a.scratch) _ a.row c.row_place-place.result c.pick.result refl c.row_place-place.ensures c.pick.ensures
