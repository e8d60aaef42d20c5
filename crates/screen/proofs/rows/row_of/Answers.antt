use Rattle.lists.proofs.Kit.{arith}
use Rattle.screen.proofs.RowLaws.{named_as, named_none}
use Rattle.screen.proofs.rows.row_of.Goals as goal

-- `screen::rows::row_of` meets its contract. Assumes nothing.
pub returns-in-1 : goal.returns-in-1
returns-in-1 c = named_as c.args.table 1 c.args.place (omega arith)

pub returns-in-2 : goal.returns-in-2
returns-in-2 c = named_as c.args.table 2 c.args.place (omega arith)

pub returns-in-3 : goal.returns-in-3
returns-in-3 c = named_as c.args.table 3 c.args.place (omega arith)

pub returns-in-4 : goal.returns-in-4
returns-in-4 c = named_as c.args.table 4 c.args.place (omega arith)

pub returns-in-5 : goal.returns-in-5
returns-in-5 c = named_as c.args.table 5 c.args.place (omega arith)

pub returns-in-6 : goal.returns-in-6
returns-in-6 c = named_as c.args.table 6 c.args.place (omega arith)

pub returns-in-7 : goal.returns-in-7
returns-in-7 c = named_as c.args.table 7 c.args.place (omega arith)

pub returns-in-8 : goal.returns-in-8
returns-in-8 c = named_as c.args.table 8 c.args.place (omega arith)

pub returns-in_default : goal.returns-in_default
returns-in_default c =
    named_none c.args.table c.args.place (λ u. omega arith) (λ u. omega arith) (λ u. omega arith) (λ u. omega arith) (λ u. omega arith) (λ u. omega arith) (λ u. omega arith) (λ u. omega arith)
