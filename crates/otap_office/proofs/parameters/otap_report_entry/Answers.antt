use borrow.Author.Rules.{rules}
use Rattle.packing_office.proofs.Theorems.{parameter_whole}
use Rattle.otap_office.proofs.parameters.otap_report_entry.Goals as goal

pub returns : goal.returns
returns c =
    let x = c.read_item-answer in
    parameter_whole _ _ x.result c.pack_parameter.result x.ensures c.pack_parameter.ensures
