use Rattle.lists.proofs.Kit.{rules, arith, ap}
use Rattle.store_check.specs.declared.forms.Form.{Form}
use Rattle.store_check.specs.Stores.{lines_size_in}
use Rattle.store_check.proofs.checks_regions.regions_end.Goals as goal

pub returns-in-Placed : goal.returns-in-Placed
returns-in-Placed c = omega (arith, c.starts_of-at.ensures.channels, ap (λ (f : Form). lines_size_in f c.args.limits.lines) c.in-Placed.is)

pub returns-in-Shared : goal.returns-in-Shared
returns-in-Shared c = omega (arith, c.starts_of-at.ensures.channels, ap (λ (f : Form). lines_size_in f c.args.limits.lines) c.in-Shared.is)
