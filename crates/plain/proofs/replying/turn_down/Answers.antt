use Rattle.lists.proofs.Kit.{refl, true, false}
use Rattle.tables.specs.Limits.{handheld}
use Rattle.tables.specs.Tables.{no_hash}
use Rattle.station.proofs.TakeLaws.{no_hash_ok, replied}
use Rattle.plain.proofs.replying.turn_down.Goals as goal

pub returns : goal.returns
returns c =
    let a = c.args in
    λ big message area. replied handheld message area a.reply.now a.res c.result_number.result a.failed true false no_hash area _ _ _ c.result_number.ensures no_hash_ok refl (c.write_reply-length.ensures big)
