use Rattle.export_write.proofs.TextSettings.{last_none, last_some}
use Rattle.lists.proofs.Kit.{sym, ◌∙◌, arith}
use Rattle.export_write.proofs.text_lists.write_last_quick.Goals as goal

pub returns-then-is_zeros : goal.returns-then-is_zeros
returns-then-is_zeros c =
    let a = c.args in
    let k = c.is_zeros in
    let e = last_none a.slot.now a.buffer.now a.at (omega arith) (sym k.ensures ∙ c.if-is_zeros.true) in
    (omega arith, record { writes = record { from = omega arith; most = omega arith; wrote = λ o h. (e o h).0 }; counted = λ o h. (e o h).1 })

pub returns : goal.returns
returns c =
    let a = c.args in
    let k = c.is_zeros in
    let v = c.write_bytes-entry in
    let w = c.write_entry-last in
    let z = c.start_setting-end in
    let e = last_some a.slot.now a.buffer.now v.new.buffer w.new.buffer z.new.buffer a.at v.result w.result z.result (sym k.ensures ∙ c.if-is_zeros.false) v.ensures w.ensures z.ensures in (
      omega arith,
      record {
        writes = record {
          from = omega arith;
          most = omega arith;
          wrote = λ o h. (e o h).0;
        };
        counted = λ o h. (e o h).1;
      },
    )
