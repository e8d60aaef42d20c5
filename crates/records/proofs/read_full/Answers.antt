use Rattle.std.proofs.Common.{rules, length, ◌-◌, sym, subst}
use Rattle.std.specs.Io.KnownBytes.{Consumes}
use Rattle.std.proofs.KnownBytes.{Consumes-trans}
use Rattle.records.proofs.ReadLaws.{filled}
use Rattle.records.proofs.read_full.Goals as goal

pub loop-got-preserved : goal.loop-got-preserved
loop-got-preserved g c =
    let at = c.loop-got.got in
    let (within, same, consumed) = c.loop-got.invariant in
    let all = filled at (length c.loop-got.buffer - at) c.in_ok-more.more c.loop-got.buffer c.read.new.buf within c.in_ok-more.ensures.bound.0 in
    (search rules, search rules, subst (Consumes _ _) (sym all) (Consumes-trans _ _ _ _ _ consumed c.in_ok-more.ensures.bytes.0))
