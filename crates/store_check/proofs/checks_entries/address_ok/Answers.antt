use Rattle.lists.proofs.Kit.{rules, arith}
use Rattle.tables.proofs.AnswerLaws.{refused}
use Rattle.store_check.proofs.EntryChecks.{address_low, address_high}
use Rattle.store_check.proofs.checks_entries.address_ok.Goals as goal

pub overflow_cast-address : goal.overflow_cast-address
overflow_cast-address c = omega (arith, (c.shared_slice_known-2-1.given 0))

pub overflow_mul-address : goal.overflow_mul-address
overflow_mul-address c = omega (arith, (c.shared_slice_known-2-1.given 0))

pub overflow_add-address : goal.overflow_add-address
overflow_add-address c = omega (arith, (c.shared_slice_known-2-1.given 0))

pub returns-then-address-lt1048576 : goal.returns-then-address-lt1048576
returns-then-address-lt1048576 c = refused (address_low c.args.s.now c.requires (λ i. (c.shared_slice_known-1.given i).fits) c.pair.result c.pair.ensures.0 (omega arith))

pub returns : goal.returns
returns c = address_high c.args.s.now c.requires (λ i. (c.shared_slice_known-1.given i).fits) c.pair.result c.pair.ensures.0 (omega arith)
