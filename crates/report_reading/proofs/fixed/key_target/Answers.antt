use Rattle.lists.proofs.Kit.{rules}
use Rattle.report_reading.proofs.KeyLaws.{calls_0, no_place, no_address, calls_group, calls_individual}
use Rattle.report_reading.proofs.fixed.key_target.Goals as goal

pub returns-then-address-eq0 : goal.returns-then-address-eq0
returns-then-address-eq0 c = calls_0 c.if-current.true c.if-address-eq0.true

pub returns-then-current : goal.returns-then-current
returns-then-current c = no_place c.if-current.true c.if-address-eq0.false

pub returns-then-address_refused : goal.returns-then-address_refused
returns-then-address_refused c = no_address c.if-current.false c.address_refused.ensures c.if-address_refused.true

pub returns-then-group : goal.returns-then-group
returns-then-group c = calls_group c.if-current.false c.if-group.true c.address_refused.ensures c.if-address_refused.false

pub returns-else-group : goal.returns-else-group
returns-else-group c = calls_individual c.if-current.false c.if-group.false c.address_refused.ensures c.if-address_refused.false
