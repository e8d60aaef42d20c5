use Rattle.lists.proofs.Kit.{arith, refl, true, false}
use Rattle.tables.specs.Tables.{no_hash}
use Rattle.station.proofs.TakeLaws.{no_hash_ok, replied}
use Rattle.station.proofs.judge.turn_down.Goals as goal

pub returns : goal.returns
returns c =
    let a = c.args in
    λ m message store. replied m message store a.reply.now a.res c.result_number.result a.failed true false no_hash store _ _ _ c.result_number.ensures no_hash_ok refl (c.write_reply-length.ensures (omega arith))
