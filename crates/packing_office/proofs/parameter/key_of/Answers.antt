use Rattle.lists.proofs.Kit.{rules, arith, refl}
use Rattle.packing_office.proofs.Packing.{key_case}
use Rattle.packing_office.proofs.parameter.key_of.Goals as goal

pub returns-in-Current : goal.returns-in-Current
returns-in-Current c = key_case _ _ c.args.f _ _ _ c.in-Current.is c.known.ensures (omega (arith, c.bit_of-in-Current.ensures.0, c.bit_of.ensures.0, c.bit_of-2.ensures.0, c.bit_of-3.ensures.0)) refl

pub returns-in-ToGroup : goal.returns-in-ToGroup
returns-in-ToGroup c = key_case _ _ c.args.f _ _ _ c.in-ToGroup.is c.known-in-ToGroup.ensures (omega (arith, c.bit_of.ensures.0, c.bit_of-2.ensures.0, c.bit_of-3.ensures.0)) refl

pub returns-in-ToIndividual : goal.returns-in-ToIndividual
returns-in-ToIndividual c = key_case _ _ c.args.f _ _ _ c.in-ToIndividual.is c.known-in-ToIndividual.ensures (omega (arith, c.bit_of.ensures.0, c.bit_of-2.ensures.0, c.bit_of-3.ensures.0)) refl
