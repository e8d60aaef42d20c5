use Rattle.lists.proofs.Kit.{ℕ, List, length-map, length, [], mul-le-mul_right, ◌≤◌, ◌<◌, ◌+◌, ◌/◌, refl, arith, subst}
use Rattle.writing.specs.declared.Operation.TheVariants.{Replace}
use Rattle.tables.specs.Layout.{member_width}
use Rattle.tables.specs.Members.{member_ok, member_bytes}
use Rattle.export_write.specs.ContactSettings.{clearing_flags, contacts_setting, contact_add}
use Rattle.export_write.specs.ContactWriters.{contact_room}
use Rattle.export_write.specs.Writers.{Kept, WritesSetting}
use Rattle.export_write.proofs.ChunkWalk.{chunked_start, chunk_long, chunk_in, chunk_is, chunk_more, chunked_end}
use Rattle.export_write.proofs.ContactWriting.{room_left}
use Rattle.export_write.proofs.ListWriting.{entries_used, adding_start, adding_more, adding_end}
use Rattle.export_write.proofs.MemberWriting.{member_slotted}
use Rattle.export_write.proofs.contacts.export_contacts.Goals as goal

pub returns-then-region-gt-MOST : goal.returns-then-region-gt-MOST
returns-then-region-gt-MOST c = λ h. absurd (omega (arith, h.0))

pub returns-then-buffer-room_for : goal.returns-then-buffer-room_for
returns-then-buffer-room_for c = λ h. absurd (omega (arith, h.1))

pub loop-slot-init : goal.loop-slot-init
loop-slot-init c =
    let a = c.args in
    let w = c.write_clearing-end in
    let u = c.used-contacts in
    let k = c.chunks_exact-slot-items in
    let t = c.into_iter-slot-iterator in
    (0, chunked_start a.region.now u.result member_width k.result t.result t.ensures.into_iter_gives u.ensures.within k.ensures.rest k.ensures.size, refl, omega arith, omega arith, adding_start (member_slotted a.which) (contact_add a.which) a.region.now w.new.buffer w.result (omega arith))

pub write_contact-end-requires : goal.write_contact-end-requires
write_contact-end-requires c =
    let a = c.args in
    let u = c.used-contacts in
    let l = c.loop-slot in
    let s = c.in-Some.ensures.steps in
    let i = l.invariant.0 in
    let k = l.invariant.1 in
    let n = chunk_in a.region.now u.result member_width l.slot-iterator i k c.in-Some.slot c.next.new.self s in
    let h : i < length a.region.now / 36 = omega (arith, n, u.ensures.within) in
    (chunk_long a.region.now u.result member_width l.slot-iterator i k c.in-Some.slot c.next.new.self s, omega (arith, l.invariant.2, l.invariant.4, room_left (contact_room a.which) i (length a.region.now / 36) h))

pub loop-slot-preserved : goal.loop-slot-preserved
loop-slot-preserved c =
    let a = c.args in
    let v = c.write_clearing-end in
    let u = c.used-contacts in
    let l = c.loop-slot in
    let w = c.write_contact-end in
    let s = c.in-Some.ensures.steps in
    let i = l.invariant.0 in
    let k = l.invariant.1 in
    let h = chunk_in a.region.now u.result member_width l.slot-iterator i k c.in-Some.slot c.next.new.self s in
    let e = chunk_is a.region.now u.result member_width l.slot-iterator i k c.in-Some.slot c.next.new.self s in
    let n : i < u.result / 36 = omega (arith, h) in (
      i + 1,
      chunk_more a.region.now u.result member_width l.slot-iterator i k c.in-Some.slot c.next.new.self s,
      omega (arith, l.invariant.2),
      omega (arith, l.invariant.3, w.ensures.from),
      omega (arith, l.invariant.4, w.ensures.most),
      adding_more (member_slotted a.which) (contact_add a.which) a.region.now v.new.buffer v.result l.buffer w.new.buffer l.end i u.result (contact_room a.which) w.result n u.ensures l.invariant.5
          (subst (λ (x : List ℕ). WritesSetting (Kept (member_ok a.which) (member_bytes a.which) x) (contact_add a.which) l.end (contact_room a.which) l.buffer w.new.buffer w.result) e w.ensures),
    )

pub returns : goal.returns
returns c =
    let a = c.args in
    let v = c.write_clearing-end in
    let u = c.used-contacts in
    let l = c.loop-slot in
    let i = l.invariant.0 in
    let k = l.invariant.1 in
    let n = chunked_end a.region.now u.result member_width l.slot-iterator i k c.in-None.ensures.steps.1.0 in
    let m : i ≤ length a.region.now / 36 = omega (arith, k.low, u.ensures.within) in
    λ h. record {
      writes = record {
        from = omega (arith, l.invariant.3, v.ensures.0);
        most = omega (arith, l.invariant.4, v.ensures.0, mul-le-mul_right (contact_room a.which) m);
        wrote = adding_end (member_slotted a.which) (contact_add a.which) a.region.now v.new.buffer v.result (contacts_setting a.which Replace (clearing_flags a.which) []) a.buffer.now l.buffer 8 l.end i u.result n u.ensures v.ensures.1 l.invariant.5;
      };
      counted = λ xs j. omega (arith, entries_used (member_slotted a.which) a.region.now xs u.result j u.ensures, length-map xs (contact_add a.which));
    }
