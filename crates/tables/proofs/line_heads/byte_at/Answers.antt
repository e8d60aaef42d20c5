use Rattle.lists.proofs.Kit.{rules, arith, ◌+◌, sym, list_getD_eq_default}
use Rattle.tables.proofs.line_heads.byte_at.Goals as goal

pub returns-then-m-start : goal.returns-then-m-start
returns-then-m-start c = sym (list_getD_eq_default c.args.m.now 0 {n = c.args.start + c.args.k} (omega arith))

pub returns-then-m-start-2 : goal.returns-then-m-start-2
returns-then-m-start-2 c = sym (list_getD_eq_default c.args.m.now 0 {n = c.args.start + c.args.k} (omega arith))
