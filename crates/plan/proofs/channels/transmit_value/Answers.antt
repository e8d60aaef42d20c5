use Rattle.lists.proofs.Kit.{arith}
use Rattle.plan.specs.Frequencies.{simplex, paired}
use Rattle.plan.proofs.channels.transmit_value.Goals as goal

pub returns-in-0-to-240 : goal.returns-in-0-to-240
returns-in-0-to-240 c = simplex (omega arith) (omega arith) (omega arith)

pub returns-in_default : goal.returns-in_default
returns-in_default c = paired (omega arith) (omega arith) (omega arith)
