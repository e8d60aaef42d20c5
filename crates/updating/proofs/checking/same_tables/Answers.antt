use Rattle.lists.proofs.Kit.{rules, arith}
use Rattle.updating.proofs.CheckLaws.{tails_compared}
use Rattle.updating.proofs.checking.same_tables.Goals as goal

pub returns-then-a-lt-KEY : goal.returns-then-a-lt-KEY
returns-then-a-lt-KEY c = λ h k. absurd (omega (arith, h, c.if-a-lt-KEY.true))

pub returns-then-b-lt-KEY : goal.returns-then-b-lt-KEY
returns-then-b-lt-KEY c = λ h k. absurd (omega (arith, k, c.if-b-lt-KEY.true))

pub returns : goal.returns
returns c =
    let a = c.args in
    tails_compared a.a.now a.b.now c.same.result c.same.ensures
