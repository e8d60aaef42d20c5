use Rattle.lists.proofs.Kit.{rules}
use Rattle.read_deeds.proofs.entries.pass.Goals as goal

pub returns-then-left-eq0 : goal.returns-then-left-eq0
returns-then-left-eq0 c = record { deed = λ some. absurd (some c.if-left-eq0.true); left = λ some. absurd (some c.if-left-eq0.true) }
