use borrow.Author.Rules.{rules}
use Rattle.packing_office.proofs.Theorems.{message_packed}
use Rattle.otap_office.proofs.packed.packed_message.Goals as goal

pub returns : goal.returns
returns c =
    let x = c.read_report_in-answer in
    message_packed _ _ x.result c.pack_message.result x.ensures c.pack_message.ensures
