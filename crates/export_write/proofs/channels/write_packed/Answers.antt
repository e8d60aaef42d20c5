use Rattle.lists.proofs.Kit.{subst, ◌≡◌, refl, ℕ, ◌/◌, arith}
use Rattle.writing.specs.Canonical.{plain}
use Rattle.export_write.proofs.WroteLaws.{writing_start}
use Rattle.export_write.specs.ChannelWriters.{packed}
use Rattle.export_write.proofs.ChannelWriting.{Packed, packed_more, packed_even, packed_odd}
use Rattle.export_write.proofs.channels.write_packed.Goals as goal

pub loop-i-init : goal.loop-i-init
loop-i-init c = let a = c.args in (refl, omega arith, omega arith, λ cs k. writing_start (plain (packed cs)) a.at a.buffer.now (omega arith))

pub loop-i-preserved : goal.loop-i-preserved
loop-i-preserved c =
    let a = c.args in
    let l = c.loop-i in
    let b = c.two_channels in
    let t = c.three-bytes in
    let w = c.write_bytes-to in (
      omega arith,
      omega arith,
      omega (arith, t.ensures.0, w.ensures.next),
      packed_more a.region.now a.buffer.now l.buffer a.count a.at l.to l.i l.invariant.3 w.new.buffer t.result w.result b.result (omega arith) b.ensures t.ensures.1 w.ensures,
    )

pub returns-then-count-eq0 : goal.returns-then-count-eq0
returns-then-count-eq0 c =
    let a = c.args in
    let l = c.loop-i in
    record {
      from = omega arith;
      most = omega arith;
      wrote = packed_even a.region.now a.buffer.now l.buffer a.count a.at l.to l.i l.invariant.3 (omega arith) (omega arith);
    }

pub returns : goal.returns
returns c =
    let a = c.args in
    let l = c.loop-i in
    let b = c.last_channel-last in
    let w = c.write_bytes in
    let e : l.i ≡ a.count / 2 = omega arith in
    let g = subst (λ (k : ℕ). Packed a.region.now a.buffer.now l.buffer a.count a.at l.to k) e l.invariant.3 in
    record {
      from = omega arith;
      most = omega arith;
      wrote = packed_odd a.region.now a.buffer.now l.buffer a.count a.at l.to (a.count / 2) g w.new.buffer w.result b.result refl (omega arith) b.ensures.0 w.ensures;
    }
