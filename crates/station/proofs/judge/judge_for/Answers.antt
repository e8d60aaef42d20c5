use Rattle.station.proofs.TakeLaws.{judged}
use Rattle.station.proofs.judge.judge_for.Goals as goal

pub returns : goal.returns
returns g c =
    let j = c.judge_in in
    judged _ _ _ _ _ _ j.result c.answer_of.result j.ensures c.answer_of.ensures
