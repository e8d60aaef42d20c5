use Rattle.tables.proofs.AnswerLaws.{not_said, was_said}
use Rattle.working.proofs.SavedLaws.{saved_shared}
use Rattle.working.proofs.saving.save_shared.Goals as goal

pub returns-then-not-is_shared : goal.returns-then-not-is_shared
returns-then-not-is_shared c = λ l o t roomy shared ok e. absurd (not_said c.is_shared.result c.is_shared.ensures c.if-not-is_shared.true-raw (l, shared))

pub returns-then-not-is_sized : goal.returns-then-not-is_sized
returns-then-not-is_sized c = λ l o t roomy shared ok e. absurd (not_said c.is_sized.result c.is_sized.ensures c.if-not-is_sized.true-raw (o, roomy))

pub save_all-requires : goal.save_all-requires
save_all-requires c =
    let (l, s) = was_said c.is_shared.result c.is_shared.ensures c.if-not-is_shared.false-raw in
    let (o, r) = was_said c.is_sized.result c.is_sized.ensures c.if-not-is_sized.false-raw in
    (l, s, o, r)

pub returns : goal.returns
returns c =
    let a = c.args in
    saved_shared a.limits a.area a.work.now a.store.now c.save_all.new.store c.save_all.ensures
