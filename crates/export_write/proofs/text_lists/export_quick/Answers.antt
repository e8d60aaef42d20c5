use Rattle.export_write.proofs.TextSettings.{quick_wrote, quick_done, quick_more}
use Rattle.lists.proofs.Kit.{◌≤◌, arith}
use Rattle.export_write.proofs.text_lists.export_quick.Goals as goal

pub returns-then-region-ne-QUICK_SIZE : goal.returns-then-region-ne-QUICK_SIZE
returns-then-region-ne-QUICK_SIZE c = λ h. absurd (omega (arith, h.0))

pub returns-then-buffer : goal.returns-then-buffer
returns-then-buffer c = λ h. absurd (omega (arith, h.1))

pub returns-then-entries-eq-QUICK_PLACES : goal.returns-then-entries-eq-QUICK_PLACES
returns-then-entries-eq-QUICK_PLACES c =
    let a = c.args in
    let x = c.write_entries-entries in
    let w = c.write_bytes in
    let z = c.start_setting-end in
    let high : x.result.end ≤ 3099 = omega (arith, x.ensures.most, x.ensures.few) in
    let q = quick_wrote a.region.now a.buffer.now x.new.buffer w.new.buffer z.new.buffer 8 w.result z.result x.result x.ensures w.ensures z.ensures in
    λ h. quick_done a.region.now a.buffer.now x.new.buffer z.new.buffer 8 z.result x.result x.ensures (omega arith) q (omega arith) (omega arith)

pub returns : goal.returns
returns c =
    let a = c.args in
    let x = c.write_entries-entries in
    let w = c.write_bytes in
    let z = c.start_setting-end in
    let high : x.result.end ≤ 3099 = omega (arith, x.ensures.most, x.ensures.few) in
    let q = quick_wrote a.region.now a.buffer.now x.new.buffer w.new.buffer z.new.buffer 8 w.result z.result x.result x.ensures w.ensures z.ensures in
    let y = c.write_last_quick-more in
    λ h. quick_more a.region.now a.buffer.now x.new.buffer z.new.buffer 8 z.result x.result x.ensures y.new.buffer y.result (λ e. omega (arith, e)) q y.ensures.1 (omega arith) (omega arith)
