use Rattle.lists.proofs.Kit.{rules, arith}
use Rattle.tables.proofs.DigitLaws.{digit_more, digit_past}
use Rattle.tables.proofs.line_heads.kept_digit.Goals as goal

pub returns-then-i-place : goal.returns-then-i-place
returns-then-i-place c =
    let a = c.args in
    digit_more a.m.now a.place a.i c.digit_at.result (omega arith) c.digit_at.ensures

pub returns : goal.returns
returns c =
    let a = c.args in
    digit_past a.m.now a.place a.i (omega arith)
