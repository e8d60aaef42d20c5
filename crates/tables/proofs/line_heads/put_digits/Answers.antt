use Rattle.lists.proofs.Kit.{rules, arith, refl}
use Rattle.tables.proofs.DigitLaws.{digits_more, digits_put}
use Rattle.tables.proofs.line_heads.put_digits.Goals as goal

pub loop-i-init : goal.loop-i-init
loop-i-init c = (refl, λ ds next is. refl)

pub loop-i-preserved : goal.loop-i-preserved
loop-i-preserved c =
    let a = c.args in
    let l = c.loop-i in
    let k = c.kept_digit in
    (search rules, digits_more a.m.now a.place a.dst.now l.i l.dst l.invariant.1 k.result (omega arith) k.ensures)

pub returns : goal.returns
returns c =
    let a = c.args in
    let l = c.loop-i in
    digits_put a.m.now a.place a.dst.now l.i l.dst l.invariant.1 (omega arith) (omega arith)
