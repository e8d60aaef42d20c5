use Rattle.lists.proofs.Kit.{rules}
use Rattle.screen.proofs.NumberLaws.{dialled_as}
use Rattle.screen.proofs.numbers.write_address.Goals as goal

pub returns-in-Some : goal.returns-in-Some
returns-in-Some c =
    let a = c.args in
    let w = c.write_digits in
    dialled_as a.address a.scratch.now w.new.scratch w.result c.in-Some.is w.ensures

pub returns-in-None : goal.returns-in-None
returns-in-None c =
    let a = c.args in
    let w = c.write_digits-in-None in
    dialled_as a.address a.scratch.now w.new.scratch w.result c.in-None.is w.ensures
