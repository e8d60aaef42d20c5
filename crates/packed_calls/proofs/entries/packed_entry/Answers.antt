use Rattle.packing.proofs.ValueBits.{entry_packed}
use Rattle.packed_calls.proofs.entries.packed_entry.Goals as goal

pub returns : goal.returns
returns c =
    let s = c.args in
    let w = c.row_of-row in
    let x = c.entry_in-answer in
    entry_packed _ s.table s.index _ _ w.ensures x.result c.pack_entry.result x.ensures c.pack_entry.ensures
