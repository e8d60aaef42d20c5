use Rattle.lists.proofs.Kit.{arith}
use Rattle.station.proofs.QueryLaws.{not_there, compared}
use Rattle.station.proofs.queries.same_hash.Goals as goal

pub returns-then-m-start-2 : goal.returns-then-m-start-2
returns-then-m-start-2 c = not_there c.args.m.now c.args.place c.args.hash.now (λ i. (c.type_inv.m i).fits) c.hash_size-size.result c.hash_size-size.ensures (λ r. omega arith)

pub returns : goal.returns
returns c = compared c.args.m.now c.args.place c.args.hash.now (λ i. (c.type_inv.m i).fits) c.hash_size-size.result c.eq.result c.hash_size-size.ensures c.if-code-eq0.false c.if-code-hash.false (omega arith) c.eq.ensures
