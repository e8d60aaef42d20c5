use Rattle.lists.proofs.Kit.{rules}
use Rattle.store_check.proofs.checks_lists.channels_ok.Goals as goal

pub returns : goal.returns
returns c = λ n l. c.counted_ok.ensures n l
