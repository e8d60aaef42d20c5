use Rattle.lists.proofs.Kit.{◌≡◌, subst, arith}
use Rattle.plain_rows.specs.Naming.{DigitsIn}
use Rattle.plain_rows.proofs.LineDigits.{off_start, off_more, off_end, off_all}
use Rattle.plain_rows.proofs.writing_out.digits_in.Goals as goal

pub loop-n-init : goal.loop-n-init
loop-n-init c = (omega arith, off_start c.args.code)

pub returns-then-rest-lt10 : goal.returns-then-rest-lt10
returns-then-rest-lt10 c =
    let a = c.args in
    let l = c.loop-n in
    off_end a.code l.rest l.n l.invariant.1 l.invariant.0 c.if-rest-lt10.true

pub loop-n-preserved : goal.loop-n-preserved
loop-n-preserved c =
    let a = c.args in
    let l = c.loop-n in
    (omega arith, off_more a.code l.rest l.n l.invariant.1 (omega arith))

pub returns : goal.returns
returns c =
    let a = c.args in
    let l = c.loop-n in
    let e : l.n ≡ 18 = omega (arith, l.invariant.0) in
    subst (DigitsIn a.code) e (off_all a.code l.rest l.n l.invariant.1 e)
