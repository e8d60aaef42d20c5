use Rattle.lists.proofs.Kit.{length, arith}
use Rattle.tables.proofs.AnswerLaws.{refused}
use Rattle.working.proofs.WholeLaws.{shared_is}
use Rattle.working.proofs.heads.is_shared.Goals as goal

pub returns-then-store-limits : goal.returns-then-store-limits
returns-then-store-limits c = refused (λ x. omega (arith, x.0))

pub returns-then-limits-gt-COUNTED : goal.returns-then-limits-gt-COUNTED
returns-then-limits-gt-COUNTED c = refused (λ x. omega (arith, x.1.few_channels))

pub returns-then-limits-gt-ORDERED : goal.returns-then-limits-gt-ORDERED
returns-then-limits-gt-ORDERED c = refused (λ x. omega (arith, x.1.few_lines))

pub returns-then-limits-heads : goal.returns-then-limits-heads
returns-then-limits-heads c = refused (λ x. omega (arith, x.1.fits, c.heads_size-heads.ensures))

pub returns : goal.returns
returns c = let a = c.args in shared_is a.limits a.area (length a.store.now) c.heads_size-heads.result (omega arith) (omega arith) (omega arith) c.heads_size-heads.ensures (omega arith)
