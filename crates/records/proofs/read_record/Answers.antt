use Rattle.std.proofs.Common.{rules, arith}
use Rattle.records.proofs.ReadLaws.{behind_head}
use Rattle.records.proofs.read_record.Goals as goal

pub returns-clause-bytes : goal.returns-clause-bytes
returns-clause-bytes g c =
    let size = c.little_endian-size in
    let kind = c.little_endian-kind in
    behind_head _ _ _ _ c.read_full.new.buffer c.in_ok-got.got size.result kind.result c.in_ok-record.record (search rules) (omega (arith, c.in_ok-got.ensures.bound, c.read_full.auto.buffer)) c.in_ok-got.ensures.bytes size.ensures.low_byte kind.ensures.low_byte size.ensures.value kind.ensures.value c.in_ok-record.ensures.within c.in_ok-record.ensures.bytes
