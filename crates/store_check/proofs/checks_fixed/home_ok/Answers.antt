use Rattle.lists.proofs.Kit.{rules, arith}
use Rattle.tables.proofs.AnswerLaws.{refused}
use Rattle.store_check.proofs.FixedChecks.{home_wide, home_np}
use Rattle.store_check.proofs.checks_fixed.home_ok.Goals as goal

pub returns-then-pair-gt511 : goal.returns-then-pair-gt511
returns-then-pair-gt511 c = refused (home_wide c.args.s.now c.requires (λ i. (c.shared_slice_known-1.given i).fits) c.pair.result c.pair.ensures.0 (omega arith))

pub returns : goal.returns
returns c = home_np c.args.s.now c.requires (λ i. (c.shared_slice_known-1.given i).fits) c.pair.result c.pair-2.result c.pair.ensures.0 c.pair-2.ensures.0 (omega arith)
