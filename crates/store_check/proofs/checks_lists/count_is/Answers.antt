use Rattle.lists.proofs.Kit.{rules}
use Rattle.store_check.proofs.CountChecks.{count_says}
use Rattle.store_check.proofs.checks_lists.count_is.Goals as goal

pub returns : goal.returns
returns c =
    count_says c.args.s.now c.requires (λ i. (c.shared_slice_known-1.given i).fits) c.args.n c.pair-count.result c.pair-count.ensures.0
