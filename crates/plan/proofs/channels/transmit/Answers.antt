use Rattle.lists.proofs.Kit.{arith, refl}
use Rattle.plan.specs.Answers.{has, none}
use Rattle.plan.proofs.FrequencyLaws.{transmits_in}
use Rattle.plan.proofs.channels.transmit.Goals as goal

pub returns-in-1-to-640 : goal.returns-in-1-to-640
returns-in-1-to-640 c = has _ c.transmit_value.ensures refl

pub returns-in_default : goal.returns-in_default
returns-in_default c = none (λ f t. let (a, b, d) = transmits_in t in omega arith) refl

pub returns-in_default-2 : goal.returns-in_default-2
returns-in_default-2 c = none (λ f t. let (a, b, d) = transmits_in t in omega arith) refl
