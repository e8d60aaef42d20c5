use Rattle.lists.proofs.Kit.{ℕ, List, ◌≤◌, ◌<◌, ◌-◌, ◌+◌, ◌*◌, refl, sym, ap, ◌∙◌, arith, subst, length, mid_of}
use Rattle.tables.specs.Layout.{member_width}
use Rattle.tables.specs.Limits.{slot_places}
use Rattle.export_write.specs.MemberWriters.{member_setting, MemberSlotIn}
use Rattle.export_write.specs.Writers.{WritesSetting}
use Rattle.export_write.proofs.ChunkWalk.{counted_start, chunk_long, chunk_in, chunk_is, chunk_more, chunked_end}
use Rattle.export_write.proofs.MemberWriting.{member_slotted}
use Rattle.export_write.proofs.SlotWriting.{slots_length, placing_start, placing_more, placing_end}
use Rattle.export_write.proofs.members.export_members.Goals as goal

pub returns-then-region-ne-MEMBER_SIZE : goal.returns-then-region-ne-MEMBER_SIZE
returns-then-region-ne-MEMBER_SIZE c = λ h. absurd (omega (arith, h.0))

pub returns-then-buffer : goal.returns-then-buffer
returns-then-buffer c = λ h. absurd (omega (arith, h.1))

pub loop-index-init : goal.loop-index-init
loop-index-init c =
    let a = c.args in
    let q = c.chunks_exact in
    let e = c.enumerate-index-items in
    let t = c.into_iter-index-iterator in
    let (z, k) = counted_start a.region.now member_width q.result e.result t.result t.ensures.into_iter_gives e.ensures.source e.ensures.count q.ensures.rest q.ensures.size in
    (0, z, k, refl, omega arith, omega arith, placing_start (member_slotted a.which) (member_setting a.which) slot_places a.region.now a.buffer.now 8 (omega arith))

pub write_member-end-requires : goal.write_member-end-requires
write_member-end-requires c =
    let a = c.args in
    let l = c.loop-index in
    let s = c.in-Some.ensures.steps.0 in
    let i = l.invariant.0 in
    let k = l.invariant.2 in
    let h = chunk_in a.region.now (length a.region.now) member_width l.index-iterator.iter i k c.in-Some.slot c.next.new.self.iter s in
    (chunk_long a.region.now (length a.region.now) member_width l.index-iterator.iter i k c.in-Some.slot c.next.new.self.iter s, omega (arith, h, l.invariant.3, l.invariant.5), omega (arith, h, l.invariant.1, c.in-Some.ensures.steps.1))

pub loop-index-preserved : goal.loop-index-preserved
loop-index-preserved c =
    let a = c.args in
    let l = c.loop-index in
    let w = c.write_member-end in
    let s = c.in-Some.ensures.steps.0 in
    let i = l.invariant.0 in
    let k = l.invariant.2 in
    let h = chunk_in a.region.now (length a.region.now) member_width l.index-iterator.iter i k c.in-Some.slot c.next.new.self.iter s in
    let e = chunk_is a.region.now (length a.region.now) member_width l.index-iterator.iter i k c.in-Some.slot c.next.new.self.iter s in
    let j = c.in-Some.ensures.steps.1 ∙ l.invariant.1 in
    let n : i < slot_places = omega (arith, h) in (
      i + 1,
      c.in-Some.ensures.steps.2 ∙ ap (λ (n : ℕ). n + 1) l.invariant.1,
      chunk_more a.region.now (length a.region.now) member_width l.index-iterator.iter i k c.in-Some.slot c.next.new.self.iter s,
      omega (arith, l.invariant.3),
      omega (arith, l.invariant.4, w.ensures.from),
      omega (arith, l.invariant.5, w.ensures.most),
      placing_more (member_slotted a.which) (member_setting a.which) slot_places a.region.now a.buffer.now 8 l.buffer w.new.buffer l.end i 42 w.result n l.invariant.6
          (subst (λ (j : ℕ). WritesSetting ((MemberSlotIn a.which (mid_of (i * member_width) (i * member_width + member_width - i * member_width) a.region.now))) (member_setting a.which j) l.end 42 l.buffer w.new.buffer w.result) j
          (subst (λ (x : List ℕ). WritesSetting (MemberSlotIn a.which x) ((member_setting a.which) c.in-Some.index) l.end 42 l.buffer w.new.buffer w.result) e w.ensures)),
    )

pub returns : goal.returns
returns c =
    let a = c.args in
    let l = c.loop-index in
    let i = l.invariant.0 in
    let k = l.invariant.2 in
    let n = chunked_end a.region.now (length a.region.now) member_width l.index-iterator.iter i k c.in-None.ensures.steps.0.1.0 in
    let m : i ≤ slot_places = omega (arith, k.low) in
    λ h. record {
      writes = record {
        from = omega (arith, l.invariant.4);
        most = omega (arith, l.invariant.5, m);
        wrote = placing_end (member_slotted a.which) (member_setting a.which) slot_places a.region.now a.buffer.now 8 l.buffer l.end i (omega (arith, n)) l.invariant.6;
      };
      counted = λ os t. sym (slots_length (member_setting a.which) 0 os ∙ t.many);
    }
