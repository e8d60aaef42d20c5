use Rattle.lists.proofs.Kit.{arith, refl}
use Rattle.values.proofs.DigitLaws.{digit_more, digits_done, digits_stop}
use Rattle.values.proofs.digits.write_kept.Goals as goal

pub loop-i-init : goal.loop-i-init
loop-i-init c ds ok e = record { within = omega arith; bytes = refl }

pub returns-then-digit-eq0 : goal.returns-then-digit-eq0
returns-then-digit-eq0 c ds ok e =
    let a = c.args in
    let l = c.loop-i in
    digits_stop a.kept.now a.buffer.now ds ok e l.buffer l.i (l.invariant ds ok e) (omega arith) c.if-digit-eq0.true

pub loop-i-preserved : goal.loop-i-preserved
loop-i-preserved c ds ok e =
    let a = c.args in
    let l = c.loop-i in
    digit_more a.kept.now a.buffer.now ds ok e l.buffer l.i (l.invariant ds ok e) (omega arith) (omega arith) c.if-digit-eq0.false

pub returns : goal.returns
returns c ds ok e =
    let a = c.args in
    let l = c.loop-i in
    let (many, bytes) = digits_done a.kept.now a.buffer.now ds ok e l.buffer l.i (l.invariant ds ok e) (omega (arith, ok.1)) in
    (omega (arith, many), bytes)
