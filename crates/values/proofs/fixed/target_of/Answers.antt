use Rattle.values.proofs.FixedLaws.{calls_here, calls_group, calls_individual}
use Rattle.values.proofs.fixed.target_of.Goals as goal

pub returns-then-here : goal.returns-then-here
returns-then-here c =
    let a = c.args in
    calls_here a.here a.group a.address c.if-here.true

pub returns-then-group : goal.returns-then-group
returns-then-group c =
    let a = c.args in
    calls_group a.here a.group a.address c.if-here.false c.if-group.true

pub returns-else-group : goal.returns-else-group
returns-else-group c =
    let a = c.args in
    calls_individual a.here a.group a.address c.if-here.false c.if-group.false
