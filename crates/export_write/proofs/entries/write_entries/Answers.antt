use Rattle.export_write.specs.EntryWriters.{entry_size}
use Rattle.lists.proofs.Kit.{subst, sym, refl, ◌∙◌, ◌+◌, ◌*◌, arith, length}
use Rattle.slots.proofs.Tables.{slot_wide}
use Rattle.export_write.proofs.EntryWriting.{Walked, turn_start, turn_as, turn_none, turn_some, entered_most, entered_all, place_inside}
use Rattle.export_write.proofs.entries.write_entries.Goals as goal
use Rattle.export_write.proofs.entries.write_entries.Goals.{then-not-is_zeros, else-not-is_zeros}

pub loop-next-init : goal.loop-next-init
loop-next-init c = let a = c.args in turn_start a.table a.region.now a.buffer.now a.at (omega arith)

pub returns-then-count-table : goal.returns-then-count-table
returns-then-count-table c =
    let a = c.args in
    let l = c.loop-next in
    record {
      from = l.invariant.from;
      most = l.invariant.most;
      few = omega arith;
      passed = omega arith;
      within = omega arith;
      full = λ h. omega arith;
      entered = entered_most a.table a.region.now a.buffer.now l.buffer a.at l.end l.count l.next l.invariant.walked (omega arith);
    }

pub overflow_mul-a : goal.overflow_mul-a
overflow_mul-a c = let a = c.args in omega (arith, place_inside c.loop-next.next a.table.places a.table.width (length a.region.now) (omega arith) c.requires.0.long)

pub overflow_add-e : goal.overflow_add-e
overflow_add-e c = let a = c.args in omega (arith, place_inside c.loop-next.next a.table.places a.table.width (length a.region.now) (omega arith) c.requires.0.long)

pub slice_bounds-is_zeros-end : goal.slice_bounds-is_zeros-end
slice_bounds-is_zeros-end c = let a = c.args in omega (arith, place_inside c.loop-next.next a.table.places a.table.width (length a.region.now) (omega arith) c.requires.0.long)

pub slice_bounds-write_entry-end : goal.slice_bounds-write_entry-end
slice_bounds-write_entry-end c = let a = c.args in omega (arith, place_inside c.loop-next.next a.table.places a.table.width (length a.region.now) (omega arith) c.requires.0.long)

pub write_entry-end-requires : goal.write_entry-end-requires
write_entry-end-requires c =
    let a = c.args in
    let l = c.loop-next in
    let p = c.requires in
    let i = place_inside l.next a.table.places a.table.width (length a.region.now) (omega arith) p.0.long in
    let w = slot_wide a.region.now (l.next * a.table.width) a.table.width i in
    let m = place_inside l.count a.table.most (entry_size a.table) (a.table.most * entry_size a.table) (omega (arith, l.invariant.few, c.if-count-table.false)) refl in
    (omega (arith, w, p.0.skips), omega (arith, w, m, l.invariant.most, l.invariant.same, p.1))

pub loop-next-preserved : goal.loop-next-preserved
loop-next-preserved c =
    let a = c.args in
    let l = c.loop-next in
    let k = c.is_zeros in
    let i = place_inside l.next a.table.places a.table.width (length a.region.now) (omega arith) c.requires.0.long in
    let n = slot_wide a.region.now (l.next * a.table.width) a.table.width i in
    elim c.if-not-is_zeros.branch [
      | then-not-is_zeros w ↦ turn_as a.table a.region.now a.buffer.now a.at _ _ _ _ _ _ (l.next + 1) w.buffer-is w.end-is w.count-is
          (turn_some a.table a.region.now a.buffer.now a.at l.buffer l.end l.count l.next l.invariant (omega arith) w.write_entry-end.new.buffer w.write_entry-end.result w.write_entry-end.auto.buffer n c.if-count-table.false
          (sym k.ensures ∙ w.if-not-is_zeros.true) w.write_entry-end.ensures)
      | else-not-is_zeros w ↦ turn_as a.table a.region.now a.buffer.now a.at _ _ _ _ _ _ (l.next + 1) w.buffer-is w.end-is w.count-is
          (turn_none a.table a.region.now a.buffer.now a.at l.buffer l.end l.count l.next l.invariant (omega arith) (sym k.ensures ∙ w.if-not-is_zeros.false))
    ]

pub returns : goal.returns
returns c =
    let a = c.args in
    let l = c.loop-next in
    record {
      from = l.invariant.from;
      most = l.invariant.most;
      few = omega arith;
      passed = omega arith;
      within = omega arith;
      full = λ h. absurd (omega arith);
      entered = entered_all a.table a.region.now a.buffer.now l.buffer a.at l.end l.count a.table.places
          (subst (Walked a.table a.region.now a.buffer.now l.buffer a.at l.end l.count) (omega arith) l.invariant.walked) (omega arith) (omega arith);
    }
