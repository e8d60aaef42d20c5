use Rattle.lists.proofs.Kit.{ℕ, List, length-map, length, [], ◌≤◌, ◌<◌, ◌+◌, ◌/◌, refl, arith, subst}
use Rattle.tables.specs.Allowed.{LineOk}
use Rattle.tables.specs.Layout.{line_width, line_bytes}
use Rattle.export_write.specs.LineSettings.{no_line_flags, line_add}
use Rattle.writing.specs.declared.Operation.TheVariants.{Replace}
use Rattle.writing.specs.Settings.{lines}
use Rattle.export_write.specs.Writers.{Kept, WritesSetting}
use Rattle.export_write.proofs.ChunkWalk.{chunked_start, chunk_long, chunk_in, chunk_is, chunk_more, chunked_end}
use Rattle.export_write.proofs.LineWriting.{line_slotted}
use Rattle.export_write.proofs.ListWriting.{entries_used, adding_start, adding_more, adding_end}
use Rattle.export_write.proofs.lines.export_lines.Goals as goal

pub returns-then-region-gt-MOST : goal.returns-then-region-gt-MOST
returns-then-region-gt-MOST c = λ h. absurd (omega (arith, h.0))

pub returns-then-buffer-region : goal.returns-then-buffer-region
returns-then-buffer-region c = λ h. absurd (omega (arith, h.1))

pub loop-slot-init : goal.loop-slot-init
loop-slot-init c =
    let w = c.write_bytes-end in
    let u = c.used-lines in
    let k = c.chunks_exact-slot-items in
    let t = c.into_iter-slot-iterator in
    (0, chunked_start c.args.region.now u.result line_width k.result t.result t.ensures.into_iter_gives u.ensures.within k.ensures.rest k.ensures.size, refl, omega arith, omega arith, adding_start line_slotted line_add _ w.new.buffer w.result (omega arith))

pub write_line-end-requires : goal.write_line-end-requires
write_line-end-requires c =
    let u = c.used-lines in
    let l = c.loop-slot in
    let s = c.in-Some.ensures.steps in
    let i = l.invariant.0 in
    let k = l.invariant.1 in
    let h = chunk_in c.args.region.now u.result line_width l.slot-iterator i k c.in-Some.slot c.next.new.self s in
    (chunk_long c.args.region.now u.result line_width l.slot-iterator i k c.in-Some.slot c.next.new.self s, omega (arith, h, l.invariant.2, l.invariant.4, u.ensures.within))

pub loop-slot-preserved : goal.loop-slot-preserved
loop-slot-preserved c =
    let a = c.args in
    let v = c.write_bytes-end in
    let u = c.used-lines in
    let l = c.loop-slot in
    let w = c.write_line-end in
    let s = c.in-Some.ensures.steps in
    let i = l.invariant.0 in
    let k = l.invariant.1 in
    let h = chunk_in a.region.now u.result line_width l.slot-iterator i k c.in-Some.slot c.next.new.self s in
    let e = chunk_is a.region.now u.result line_width l.slot-iterator i k c.in-Some.slot c.next.new.self s in
    let n : i < u.result / 52 = omega (arith, h) in (
      i + 1,
      chunk_more a.region.now u.result line_width l.slot-iterator i k c.in-Some.slot c.next.new.self s,
      omega (arith, l.invariant.2),
      omega (arith, l.invariant.3, w.ensures.from),
      omega (arith, l.invariant.4, w.ensures.most),
      adding_more line_slotted line_add a.region.now v.new.buffer v.result l.buffer w.new.buffer l.end i u.result 49 w.result n u.ensures l.invariant.5
          (subst (λ (x : List ℕ). WritesSetting (Kept LineOk line_bytes x) line_add l.end 49 l.buffer w.new.buffer w.result) e w.ensures),
    )

pub returns : goal.returns
returns c =
    let a = c.args in
    let v = c.write_bytes-end in
    let u = c.used-lines in
    let l = c.loop-slot in
    let i = l.invariant.0 in
    let k = l.invariant.1 in
    let n = chunked_end a.region.now u.result line_width l.slot-iterator i k c.in-None.ensures.steps.1.0 in
    let m : i ≤ length a.region.now / 52 = omega (arith, k.low, u.ensures.within) in
    λ h. record {
      writes = record {
        from = omega (arith, l.invariant.3, l.invariant.4, v.ensures.next);
        most = omega (arith, l.invariant.3, l.invariant.4, v.ensures.next, m);
        wrote = adding_end line_slotted line_add a.region.now v.new.buffer v.result (lines Replace no_line_flags []) a.buffer.now l.buffer 8 l.end i u.result n u.ensures v.ensures l.invariant.5;
      };
      counted = λ ls j. omega (arith, entries_used line_slotted a.region.now ls u.result j u.ensures, length-map ls line_add);
    }
