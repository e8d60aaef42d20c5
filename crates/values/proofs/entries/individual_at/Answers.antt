use Rattle.values.proofs.EntryLaws.{individual_reads}
use Rattle.values.proofs.entries.individual_at.Goals as goal

pub returns : goal.returns
returns c = individual_reads c.args.slot.now c.individual_flags_of.result c.address_of-address.result c.individual_flags_of.ensures c.address_of-address.ensures
