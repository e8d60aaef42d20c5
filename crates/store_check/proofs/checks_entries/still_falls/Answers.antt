use Rattle.lists.proofs.Kit.{rules}
use Rattle.store_check.proofs.TextChecks.{falls_low, falls_high}
use Rattle.store_check.proofs.checks_entries.still_falls.Goals as goal

pub returns-then-x-eq0 : goal.returns-then-x-eq0
returns-then-x-eq0 c = falls_low c.args.before c.args.x c.args.y c.if-before.true c.if-x-eq0.true

pub returns-else-x-eq0 : goal.returns-else-x-eq0
returns-else-x-eq0 c = falls_high c.args.before c.args.x c.args.y c.if-before.true c.if-x-eq0.false
