use Rattle.lists.proofs.Kit.{rules, arith}
use Rattle.tables.proofs.AnswerLaws.{refused, turned}
use Rattle.store_check.proofs.FixedChecks.{key_there, key_here, key_none}
use Rattle.store_check.proofs.checks_fixed.key_ok.Goals as goal

pub returns-in-0-to-15 : goal.returns-in-0-to-15
returns-in-0-to-15 c = let t = key_there c.args.s.now c.requires (omega arith) in turned c.address_ok.result c.address_ok.ensures t.0 t.1

pub returns-in-16-to-31 : goal.returns-in-16-to-31
returns-in-16-to-31 c = rw c.is_zeros.ensures (key_here c.args.s.now c.requires (omega arith) (omega arith))

pub returns-in_default : goal.returns-in_default
returns-in_default c = refused (key_none c.args.s.now c.requires (omega arith))
