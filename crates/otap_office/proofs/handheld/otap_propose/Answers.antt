use Rattle.lists.proofs.Kit.{rules}
use Rattle.export.proofs.RequestLaws.{handheld_exportable}
use Rattle.packing_office.proofs.UpdateBits.{proposal_packed}
use Rattle.otap_office.proofs.handheld.otap_propose.Goals as goal

pub returns : goal.returns
returns c =
    let x = c.propose-answer in
    proposal_packed _ _ _ _ handheld_exportable _ x.result c.pack_proposal.result x.ensures c.pack_proposal.ensures
