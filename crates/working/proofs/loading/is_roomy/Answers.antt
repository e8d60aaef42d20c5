use Rattle.lists.proofs.Kit.{arith, le-leb, leb-true}
use Rattle.tables.proofs.AnswerLaws.{refused}
use Rattle.working.proofs.loading.is_roomy.Goals as goal

pub returns-then-room-bytes : goal.returns-then-room-bytes
returns-then-room-bytes c = refused (λ x. omega (arith, x.0))

pub returns-then-room-gt-CHUNK : goal.returns-then-room-gt-CHUNK
returns-then-room-gt-CHUNK c = refused (λ x. omega (arith, x.1))

pub returns-then-in_area-lt-CHUNK : goal.returns-then-in_area-lt-CHUNK
returns-then-in_area-lt-CHUNK c = refused (λ x. omega (arith, x.2))

pub returns : goal.returns
returns c = (λ e. (omega arith, omega arith, omega arith, leb-true _ _ e), λ x. le-leb _ _ x.3)
