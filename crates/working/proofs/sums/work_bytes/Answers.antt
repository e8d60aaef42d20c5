use Rattle.tables.proofs.AnswerLaws.{not_said, was_said}
use Rattle.working.proofs.SumLaws.{works_length, work_summed}
use Rattle.working.proofs.sums.work_bytes.Goals as goal

pub returns-then-not-is_sized : goal.returns-then-not-is_sized
returns-then-not-is_sized c = λ t roomy w. absurd (not_said c.is_sized.result c.is_sized.ensures c.if-not-is_sized.true-raw (works_length _ t _ roomy w, roomy))

pub all_bytes-requires : goal.all_bytes-requires
all_bytes-requires c = was_said c.is_sized.result c.is_sized.ensures c.if-not-is_sized.false-raw

pub returns : goal.returns
returns c =
    let a = c.args in
    work_summed a.limits a.work.now c.all_bytes.result c.all_bytes.ensures
