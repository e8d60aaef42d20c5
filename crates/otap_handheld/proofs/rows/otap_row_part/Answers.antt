use borrow.Author.Rules.{rules}
use Rattle.packed_calls.proofs.Sets.{handheld_packable}
use Rattle.otap_handheld.proofs.rows.otap_row_part.Goals as goal

pub returns : goal.returns
returns c = c.packed_part.ensures handheld_packable
