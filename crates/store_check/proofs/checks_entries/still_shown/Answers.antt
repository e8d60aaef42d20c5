use Rattle.lists.proofs.Kit.{rules}
use Rattle.store_check.proofs.AreaLaws.{shown_low, shown_high}
use Rattle.store_check.proofs.checks_entries.still_shown.Goals as goal

pub returns-then-high-eq0 : goal.returns-then-high-eq0
returns-then-high-eq0 c = shown_low c.args.before c.args.high c.args.low c.if-before.true c.if-high-eq0.true

pub returns-else-high-eq0 : goal.returns-else-high-eq0
returns-else-high-eq0 c = shown_high c.args.before c.args.high c.args.low c.if-before.true c.if-high-eq0.false
