use Rattle.lists.proofs.Kit.{arith, ◌+◌, ◌-◌}
use Rattle.tables.specs.Layout.{count_size}
use Rattle.menu.proofs.CountLaws.{counts_read}
use Rattle.menu.proofs.counting.read_counts.Goals as goal

pub returns : goal.returns
returns c =
    let a = c.args in
    let channels = c.channels_at-start in
    let lines = c.lines_at-lines in
    let slots = c.line_slots in
    let at = lines.ensures.2 c.requires.0.few_channels in
    counts_read a.limits c.requires.0 a.store.now
    lines.result (lines.result + (count_size + slots.result) - lines.result) channels.result (lines.result - channels.result)
    at.0 (omega (arith, slots.ensures.1 c.requires.0.few_lines)) channels.ensures.0 (omega (arith, channels.ensures.0, at.1))
    c.count-held.result c.count-channels.result c.count-held.ensures c.count-channels.ensures
