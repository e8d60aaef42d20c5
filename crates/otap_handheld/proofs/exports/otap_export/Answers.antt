use borrow.Author.Rules.{rules}
use Rattle.packed_calls.proofs.Sets.{handheld_packable}
use Rattle.otap_handheld.proofs.exports.otap_export.Goals as goal

pub returns : goal.returns
returns c = c.packed_export.ensures handheld_packable (search rules)
