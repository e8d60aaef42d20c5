use Rattle.lists.proofs.Kit.{◌-◌}
use Rattle.read_fields.specs.Entries.{form_of, range_of}
use Rattle.read_fields.proofs.EntryLaws.{list_ends, list_whole}
use Rattle.read_fields.proofs.Walk.{Passed}
use Rattle.writing.specs.Ranges.{text_limits}
use Rattle.read_fields.proofs.entries.walk_entries.Given as goal

abbrev pub invariant-loop : goal.invariant-loop
invariant-loop l = Passed (form_of l.list l.coding) (range_of l.list text_limits) (list_ends l.list l.coding) (list_whole l.list l.coding) l.m l.at l.count l.p (l.count - l.counter)
