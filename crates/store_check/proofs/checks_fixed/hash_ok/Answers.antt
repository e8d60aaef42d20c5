use Rattle.lists.proofs.Kit.{rules}
use Rattle.tables.proofs.AnswerLaws.{refused, granted}
use Rattle.store_check.proofs.FixedChecks.{hash_0, hash_1, hash_2, hash_other}
use Rattle.lists.proofs.Kit.{arith}
use Rattle.store_check.proofs.checks_fixed.hash_ok.Goals as goal

pub returns-in-0 : goal.returns-in-0
returns-in-0 c = rw c.is_zeros.ensures (hash_0 c.args.s.now c.requires (λ i. (c.shared_slice_known-1.given i).fits) c.in-0.is)

pub returns-in-1 : goal.returns-in-1
returns-in-1 c = rw c.is_zeros-in-1.ensures (hash_1 c.args.s.now c.requires (λ i. (c.shared_slice_known-1.given i).fits) c.in-1.is)

pub returns-in-2 : goal.returns-in-2
returns-in-2 c = granted (hash_2 c.args.s.now c.requires (λ i. (c.shared_slice_known-1.given i).fits) c.in-2.is)

pub returns-in_default : goal.returns-in_default
returns-in_default c = refused (hash_other c.args.s.now c.requires (λ i. (c.shared_slice_known-1.given i).fits) (λ u. omega arith) (λ u. omega arith) (λ u. omega arith))
