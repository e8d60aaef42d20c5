use Rattle.lists.proofs.Kit.{rules}
use Rattle.store_places.proofs.FixedLaws.{current_bits, group_bits, individual_bits}
use Rattle.store_places.proofs.fixed.target_bits.Goals as goal

pub returns-in-Current : goal.returns-in-Current
returns-in-Current c = current_bits c.args.target c.in-Current.group c.bit_of.result c.in-Current.is c.bit_of.ensures.0 c.bit_of.ensures.1

pub returns-in-ToGroup : goal.returns-in-ToGroup
returns-in-ToGroup c = group_bits c.args.target c.in-ToGroup.field-0 c.in-ToGroup.is

pub returns-in-ToIndividual : goal.returns-in-ToIndividual
returns-in-ToIndividual c = individual_bits c.args.target c.in-ToIndividual.field-0 c.in-ToIndividual.is
