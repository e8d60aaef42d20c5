use Rattle.lists.proofs.Kit.{rules}
use Rattle.tables.proofs.DigitLaws.{digit_even, digit_odd}
use Rattle.tables.proofs.line_heads.digit_at.Goals as goal

pub returns-then-i-eq0 : goal.returns-then-i-eq0
returns-then-i-eq0 c =
    let a = c.args in
    digit_even a.m.now (λ k. (c.shared_slice_known-1.given k).fits) a.place a.i c.byte_at-both.result c.byte_at-both.ensures c.if-i-eq0.true

pub returns : goal.returns
returns c =
    let a = c.args in
    digit_odd a.m.now (λ k. (c.shared_slice_known-1.given k).fits) a.place a.i c.byte_at-both.result c.byte_at-both.ensures c.if-i-eq0.false
