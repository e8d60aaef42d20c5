use Rattle.lists.proofs.Kit.{arith, refl}
use Rattle.read_carrier.proofs.MessageLaws.{no_query, no_query_value, query_goes_on, the_query}
use Rattle.read_carrier.proofs.carrier.read_query.Goals as goal

pub returns-then-remaining-lt1 : goal.returns-then-remaining-lt1
returns-then-remaining-lt1 c = λ most. no_query c.args.m.now (λ i. (c.type_inv.m i).fits) _ refl most c.requires.1 (λ v r s p. omega arith)

pub returns-in_default : goal.returns-in_default
returns-in_default c = λ most. no_query_value c.args.m.now (λ i. (c.type_inv.m i).fits) _ (c.number.ensures (omega arith, omega arith)) most c.requires.1 c.in_default.ensures refl

pub returns-then-next-m : goal.returns-then-next-m
returns-then-next-m c = λ most. query_goes_on c.args.m.now (λ i. (c.type_inv.m i).fits) _ (c.number.ensures (omega arith, omega arith)) most _ _ c.requires.1 c.in-Some.ensures refl (λ e. omega arith)

pub returns : goal.returns
returns c = λ most. the_query c.args.m.now (λ i. (c.type_inv.m i).fits) _ (c.number.ensures (omega arith, omega arith)) most _ _ c.requires.1 c.in-Some.ensures refl (omega arith) (omega arith)
