use Rattle.lists.proofs.Kit.{refl}
use Rattle.screen.specs.Screen.{lent}
use Rattle.screen.proofs.ShowLaws.{part_given}
use Rattle.screen.proofs.show.part_in.Goals as goal

pub pick-requires : goal.pick-requires
pick-requires c = c.place_in-place.ensures.fits

pub returns : goal.returns
returns c =
    let a = c.args in
    let p = c.place_in-place in
    part_given a.limits a.store (lent a.scratch) _ a.row _ refl p.result p.ensures c.pick.ensures
