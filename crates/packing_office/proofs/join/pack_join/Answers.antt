use Rattle.lists.proofs.Kit.{rules, arith, refl}
use Rattle.joining.specs.declared.answers.Join.TheVariants.{Buffer, Codings, TooMany, TooLong}
use Rattle.packing_office.proofs.JoinBits.{join_case, written_case, first_case, second_case}
use Rattle.packing_office.proofs.join.pack_join.Goals as goal

pub returns-in-Written : goal.returns-in-Written
returns-in-Written c = written_case _ c.in-Written.length c.low.result c.in-Written.is c.low.ensures.1

pub returns-in-Buffer : goal.returns-in-Buffer
returns-in-Buffer c = join_case _ Buffer _ c.in-Buffer.is (λ f. refl)

pub returns-in-First : goal.returns-in-First
returns-in-First c = first_case _ c.in-First.fault c.pack_fault.result c.in-First.is c.pack_fault.ensures.0

pub returns-in-Second : goal.returns-in-Second
returns-in-Second c = second_case _ c.in-Second.fault c.pack_fault-in-Second.result c.in-Second.is c.pack_fault-in-Second.ensures.0

pub returns-in-Codings : goal.returns-in-Codings
returns-in-Codings c = join_case _ Codings _ c.in-Codings.is (λ f. refl)

pub returns-in-TooMany : goal.returns-in-TooMany
returns-in-TooMany c = join_case _ TooMany _ c.in-TooMany.is (λ f. refl)

pub returns-in-TooLong : goal.returns-in-TooLong
returns-in-TooLong c = join_case _ TooLong _ c.in-TooLong.is (λ f. refl)
