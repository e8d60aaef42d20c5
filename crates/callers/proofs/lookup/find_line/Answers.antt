use Rattle.lists.proofs.Kit.{arith, ◌+◌, ◌-◌}
use Rattle.tables.specs.Layout.{count_size}
use Rattle.callers.proofs.LookupLaws.{found_line}
use Rattle.callers.proofs.lookup.find_line.Goals as goal

pub returns : goal.returns
returns c =
    let a = c.args in
    let lines = c.lines_at-lines in
    let slots = c.line_slots in
    let slot = c.line_slot in
    found_line a.limits c.requires.0 a.store.now a.key.now slot.result lines.result (lines.result + (count_size + slots.result + a.limits.lines) - lines.result)
    slot.ensures (lines.ensures.2 c.requires.0.few_channels).0 (omega (arith, slots.ensures.1 c.requires.0.few_lines)) c.find_entry.result c.find_entry.ensures
