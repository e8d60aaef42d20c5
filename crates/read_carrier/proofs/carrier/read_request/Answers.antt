use Rattle.lists.proofs.Kit.{arith, refl}
use Rattle.writing.specs.declared.Coding.TheVariants.{Unicode16, EightBit}
use Rattle.read_carrier.proofs.MessageLaws.{other_coding, no_request, the_request}
use Rattle.read_carrier.proofs.carrier.read_request.Goals as goal

pub returns-then-remaining-lt1 : goal.returns-then-remaining-lt1
returns-then-remaining-lt1 c = λ most. no_request c.args.m.now (λ i. (c.type_inv.m i).fits) _ refl most c.requires (λ k count e r n l. omega arith)

pub returns-then-count-eq0 : goal.returns-then-count-eq0
returns-then-count-eq0 c = λ most. no_request c.args.m.now (λ i. (c.type_inv.m i).fits) _ (c.number.ensures (omega arith, omega arith)) most c.requires (λ k count e r n l. omega arith)

pub returns-in-7 : goal.returns-in-7
returns-in-7 c = λ most. the_request c.args.m.now (λ i. (c.type_inv.m i).fits) _ (c.number.ensures (omega arith, omega arith)) most Unicode16 c.requires c.in-7.is (omega arith) (omega arith)

pub returns-in-4 : goal.returns-in-4
returns-in-4 c = λ most. the_request c.args.m.now (λ i. (c.type_inv.m i).fits) _ (c.number.ensures (omega arith, omega arith)) most EightBit c.requires c.in-4.is (omega arith) (omega arith)

pub returns-in_default : goal.returns-in_default
returns-in_default c = λ most. no_request c.args.m.now (λ i. (c.type_inv.m i).fits) _ (c.number.ensures (omega arith, omega arith)) most c.requires (λ k count e r n l. other_coding (λ u. omega arith) (λ u. omega arith) k e)
