use Rattle.station.proofs.TakeLaws.{committed}
use Rattle.station.proofs.commit.commit_in.Goals as goal

pub returns : goal.returns
returns c =
    let a = c.args in
    let j = c.judge_in-verdict in
    committed a.limits a.m.now a.store.now a.reply.now _ _ j.result c.answer_of.result _ j.ensures c.keep.ensures c.answer_of.ensures
