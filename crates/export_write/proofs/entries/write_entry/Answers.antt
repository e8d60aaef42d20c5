use Rattle.lists.proofs.Kit.{length-drop, length, drop, take_all, mid_len, ◌-◌, sym, arith}
use Rattle.export_write.proofs.EntryWriting.{entry_wrote}
use Rattle.export_write.proofs.entries.write_entry.Goals as goal

pub returns : goal.returns
returns c =
    let a = c.args in
    let v = c.write_bytes-text in
    let w = c.write_text in
    let t = mid_len a.skip (length a.slot.now) a.slot.now (omega arith) in
    record {
      from = omega arith;
      most = omega (arith, t);
      wrote = entry_wrote a.index a.at v.result w.result _ a.buffer.now v.new.buffer w.new.buffer v.ensures w.ensures (drop a.skip a.slot.now)
          (sym (take_all (length a.slot.now - a.skip) (drop a.skip a.slot.now) (omega (arith, length-drop a.skip a.slot.now))));
    }
