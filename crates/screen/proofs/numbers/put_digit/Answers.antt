use Rattle.lists.proofs.Kit.{◌*◌, ◌+◌, refl, arith, length-set}
use Rattle.screen.proofs.NumberLaws.{digit_put}
use Rattle.screen.proofs.numbers.put_digit.Goals as goal

pub bounds-scratch-low : goal.bounds-scratch-low
bounds-scratch-low c = simp length-set (omega arith)

pub returns : goal.returns
returns c =
    let a = c.args in
    digit_put a.scratch.now a.i (2 * a.i) (2 * a.i + 1) a.digit c.code.result refl refl (omega arith) c.code.ensures
