use Rattle.lists.proofs.Kit.{rules, arith}
use Rattle.store_lists.proofs.MarkLaws.{mark_set, mark_past}
use Rattle.store_lists.proofs.marks.mark.Goals as goal

pub returns-then-marks-n : goal.returns-then-marks-n
returns-then-marks-n c = mark_past c.args.marks.now c.args.n (omega arith)

pub returns : goal.returns
returns c = mark_set c.args.marks.now c.args.n (omega arith)
