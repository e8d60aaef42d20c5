use borrow.Author.Rules.{rules}
use Rattle.packing_desk.proofs.DeskBits.{area_starts_packed}
use Rattle.otap_desk.proofs.messages.otap_plain_start.Goals as goal

pub returns : goal.returns
returns c =
    let x = c.start-did in
    area_starts_packed _ _ x.result c.start_number.result c.start_number.ensures x.ensures
