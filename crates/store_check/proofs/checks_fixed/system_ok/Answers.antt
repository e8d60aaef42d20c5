use Rattle.lists.proofs.Kit.{rules, arith}
use Rattle.tables.proofs.AnswerLaws.{refused}
use Rattle.store_check.proofs.FixedChecks.{system_lai, system_la, system_roaming}
use Rattle.store_check.proofs.checks_fixed.system_ok.Goals as goal

pub returns-then-pair-gt4095 : goal.returns-then-pair-gt4095
returns-then-pair-gt4095 c = refused (system_lai c.args.s.now c.requires (λ i. (c.shared_slice_known-1.given i).fits) c.pair.result c.pair.ensures.0 (omega arith))

pub returns-then-s-gt8 : goal.returns-then-s-gt8
returns-then-s-gt8 c = refused (system_la c.args.s.now c.requires (λ i. (c.shared_slice_known-1.given i).fits) c.pair.result c.pair.ensures.0 (omega arith))

pub returns : goal.returns
returns c = system_roaming c.args.s.now c.requires (λ i. (c.shared_slice_known-1.given i).fits) c.pair.result c.pair.ensures.0 (omega arith) (omega arith)
