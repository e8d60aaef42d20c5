use Rattle.lists.proofs.Kit.{◌+◌, arith, refl}
use Rattle.plan.specs.Answers.{has, none}
use Rattle.plan.specs.Frequencies.{both_ways, above}
use Rattle.plan.proofs.FrequencyLaws.{transmits_in, receives_in}
use Rattle.plan.proofs.channels.receive.Goals as goal

pub overflow_add-result : goal.overflow_add-result
overflow_add-result c = let h = transmits_in c.transmit_value-in-241-to-640.ensures in omega arith

pub returns-in-1-to-240 : goal.returns-in-1-to-240
returns-in-1-to-240 c = has _ (both_ways (omega arith) c.transmit_value.ensures) refl

pub returns-in-241-to-640 : goal.returns-in-241-to-640
returns-in-241-to-640 c = has (c.transmit_value-in-241-to-640.result + 100000) (above (omega arith) c.transmit_value-in-241-to-640.ensures (omega arith)) refl

pub returns-in_default : goal.returns-in_default
returns-in_default c = none (λ f t. let (a, b) = receives_in t in omega arith) refl

pub returns-in_default-2 : goal.returns-in_default-2
returns-in_default-2 c = none (λ f t. let (a, b) = receives_in t in omega arith) refl
