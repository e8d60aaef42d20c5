use Rattle.lists.proofs.Kit.{arith, refl}
use Rattle.plan.specs.Answers.{none}
use Rattle.plan.proofs.AnswerLaws.{carried}
use Rattle.plan.proofs.FrequencyLaws.{paired_steps, steps_paired, simplex_steps, steps_simplex, no_band}
use Rattle.plan.proofs.channels.channel_of_transmit.Goals as goal

pub returns-in-3510125-to-3560000 : goal.returns-in-3510125-to-3560000
returns-in-3510125-to-3560000 c = carried (paired_steps _ (omega arith) (omega arith)) (steps_paired _ (omega arith) (omega arith)) c.channel_above.ensures

pub returns-in-3580125-to-3610000 : goal.returns-in-3580125-to-3610000
returns-in-3580125-to-3610000 c = carried (simplex_steps _ (omega arith) (omega arith)) (steps_simplex _ (omega arith) (omega arith)) c.channel_above-in-3580125-to-3610000.ensures

pub returns-in_default : goal.returns-in_default
returns-in_default c = none (no_band _ (omega arith) (omega arith)) refl

pub returns-in_default-2 : goal.returns-in_default-2
returns-in_default-2 c = none (no_band _ (omega arith) (omega arith)) refl

pub returns-in_default-3 : goal.returns-in_default-3
returns-in_default-3 c = none (no_band _ (omega arith) (omega arith)) refl
