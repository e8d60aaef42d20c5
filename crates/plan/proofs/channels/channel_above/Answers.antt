use Rattle.lists.proofs.Kit.{arith, ◌/◌, refl}
use Rattle.plan.specs.Answers.{has, none}
use Rattle.plan.proofs.channels.channel_above.Goals as goal

pub returns-then-rest-eq0 : goal.returns-then-rest-eq0
returns-then-rest-eq0 c = has (c.args.rest / 125) (omega arith) refl

pub returns-else-rest-eq0 : goal.returns-else-rest-eq0
returns-else-rest-eq0 c = none (λ n e. omega arith) refl
