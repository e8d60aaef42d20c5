use Rattle.lists.proofs.Kit.{rules, eqb-false}
use Rattle.store_lists.proofs.keyed.same_address.Goals as goal

pub returns : goal.returns
returns c = let a = c.args in λ f p q r. eqb-false a.a a.x f p
