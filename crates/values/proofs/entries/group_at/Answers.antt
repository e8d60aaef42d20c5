use Rattle.values.proofs.EntryLaws.{group_reads}
use Rattle.values.proofs.entries.group_at.Goals as goal

pub returns : goal.returns
returns c = group_reads c.args.slot.now c.group_flags_of.result c.address_of-address.result c.group_flags_of.ensures c.address_of-address.ensures
