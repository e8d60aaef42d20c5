use Rattle.lists.proofs.Kit.{rules}
use Rattle.tables.proofs.AnswerLaws.{granted}
use Rattle.store_check.proofs.DistinctLaws.{key_none}
use Rattle.store_check.proofs.checks_lists.key_new.Goals as goal

pub returns-then-seen-eq0 : goal.returns-then-seen-eq0
returns-then-seen-eq0 c = λ xs p e n. granted (n c.if-seen-eq0.true)

pub returns : goal.returns
returns c =
    let a = c.args in
    λ xs p e n. key_none a.w a.o a.k c.requires.0 c.requires.1 a.key.now c.requires.2 xs p a.s.now e c.place_of.result c.place_of.ensures
