use Rattle.lists.proofs.Kit.{arith}
use Rattle.read_fields.proofs.HashLaws.{no_code, no_value, the_value}
use Rattle.read_fields.proofs.hashes.read_hash.Goals as goal

-- `read_fields::hashes::read_hash` meets its contract. Assumes nothing.
pub returns-then-code-gt2 : goal.returns-then-code-gt2
returns-then-code-gt2 c = no_code c.args.m.now _ (λ i. (c.type_inv.m i).fits) _ (omega arith)

pub returns-then-remaining-size : goal.returns-then-remaining-size
returns-then-remaining-size c = no_value c.args.m.now _ (λ i. (c.type_inv.m i).fits) _ _ c.hash_size-size.ensures (omega arith) (omega arith)

pub returns : goal.returns
returns c = the_value c.args.m.now _ (λ i. (c.type_inv.m i).fits) _ _ c.hash_size-size.ensures (omega arith) (omega arith)
