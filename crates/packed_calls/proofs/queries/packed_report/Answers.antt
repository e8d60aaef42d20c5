use Rattle.lists.proofs.Bytes.{bytes_all}
use Rattle.packing.proofs.ReportBits.{report_packed}
use Rattle.packed_calls.proofs.queries.packed_report.Goals as goal

pub returns : goal.returns
returns c =
    let x = c.report_in-answer in
    let a = c.args in
    λ can lent. report_packed _ _ _ _ _ (bytes_all a.query.now (λ i. (c.shared_slice_known-1.given i).fits)) can _ x.result c.pack_report.result (x.ensures can lent) c.pack_report.ensures
