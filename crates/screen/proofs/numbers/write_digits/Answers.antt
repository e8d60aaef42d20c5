use Rattle.lists.proofs.Kit.{◌-◌, ◌%◌, refl, rules, mod-lt, arith}
use Rattle.screen.proofs.NumberLaws.{left_start, left_more, left_end}
use Rattle.screen.proofs.numbers.write_digits.Goals as goal

pub loop-left-init : goal.loop-left-init
loop-left-init c = let a = c.args in (refl, left_start a.scratch.now a.x a.base a.n)

pub overflow_cast-rest : goal.overflow_cast-rest
overflow_cast-rest c =
    let a = c.args in
    omega (arith, mod-lt c.loop-left.rest {m = a.base} (omega arith))

pub put_digit-requires : goal.put_digit-requires
put_digit-requires c =
    let a = c.args in
    let l = c.loop-left in
    (omega (arith, l.invariant.1.fits), omega (arith, mod-lt l.rest {m = a.base} (omega arith)))

pub loop-left-preserved : goal.loop-left-preserved
loop-left-preserved c =
    let a = c.args in
    let l = c.loop-left in
    let k = c.put_digit in
    (search rules, left_more a.scratch.now a.x a.base a.n l.scratch l.left l.rest l.invariant.1 k.new.scratch (l.left - 1) (l.rest % a.base) (omega arith) (omega arith) refl (omega (arith, mod-lt l.rest {m = a.base} (omega arith))) k.ensures)

pub returns : goal.returns
returns c =
    let a = c.args in
    let l = c.loop-left in
    left_end a.scratch.now a.x a.base a.n l.scratch l.left l.rest l.invariant.1 (omega arith) (omega arith)
