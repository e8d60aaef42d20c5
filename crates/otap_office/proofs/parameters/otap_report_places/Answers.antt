use borrow.Author.Rules.{rules}
use Rattle.packing_office.proofs.Theorems.{places_whole}
use Rattle.otap_office.proofs.parameters.otap_report_places.Goals as goal

pub returns : goal.returns
returns c =
    let x = c.read_item-answer in
    places_whole _ _ x.result c.pack_places.result x.ensures c.pack_places.ensures
