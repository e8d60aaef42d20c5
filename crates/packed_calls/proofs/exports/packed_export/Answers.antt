use Rattle.packing.proofs.ExportBits.{exports_packed}
use Rattle.packed_calls.proofs.exports.packed_export.Goals as goal

pub returns : goal.returns
returns c =
    let x = c.export_in-answer in
    λ ok lent. exports_packed _ ok _ _ _ _ x.result c.pack_export.result (x.ensures.1 ok.exportable lent) c.pack_export.ensures
