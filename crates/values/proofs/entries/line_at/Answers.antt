use Rattle.values.proofs.EntryLaws.{line_reads}
use Rattle.values.proofs.entries.line_at.Goals as goal

pub returns : goal.returns
returns c = line_reads c.args.slot.now c.line_flags_of.result c.line_flags_of.ensures
