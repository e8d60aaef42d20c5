use Rattle.export_write.proofs.EntryWriting.{Turn}
use Rattle.export_write.proofs.entries.write_entries.Given as goal

abbrev pub invariant-loop-next : goal.invariant-loop-next
invariant-loop-next l = Turn l.table l.region l.initial.buffer l.at l.buffer l.end l.count l.next
