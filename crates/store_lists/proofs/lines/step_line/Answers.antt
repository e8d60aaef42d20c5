use Rattle.lists.proofs.Kit.{rules}
use Rattle.store_lists.proofs.LineLaws.{line_put, line_dropped}
use Rattle.store_lists.proofs.lines.step_line.Goals as goal

pub returns-in-Add : goal.returns-in-Add
returns-in-Add c =
    let a = c.args in
    let p = c.put_ordered in
    let k = line_put a.slot.now a.list.now p.new.part c.line_places-n.result c.line_places-n.ensures p.result p.ensures in
    rw c.in-Add.is k

pub returns-in-Delete : goal.returns-in-Delete
returns-in-Delete c =
    let a = c.args in
    let d = c.drop_ordered in
    rw c.in-Delete.is (line_dropped a.slot.now a.list.now d.new.part c.line_places-n.result c.line_places-n.ensures d.ensures)

pub returns-in-Replace : goal.returns-in-Replace
returns-in-Replace c =
    let a = c.args in
    let p = c.put_ordered-in-Replace in
    let k = line_put a.slot.now a.list.now p.new.part c.line_places-n.result c.line_places-n.ensures p.result p.ensures in
    rw c.in-Replace.is (record { kept = k.kept; tried = k.tried })
