use Rattle.lists.proofs.Kit.{rules, arith, ℕ, ◌≡◌, sym, subst, get_or, set}
use Rattle.store_lists.specs.Lists.{MarkedDropped}
use Rattle.store_lists.proofs.MarkLaws.{no_mark, unmarked, unmark}
use Rattle.store_lists.proofs.channels.delete_marked.Goals as goal

pub returns-then-marks-at : goal.returns-then-marks-at
returns-then-marks-at c =
    let a = c.args in
    no_mark a.n a.list.now a.marks.now (omega arith)

pub returns-then-marks-at-eq0 : goal.returns-then-marks-at-eq0
returns-then-marks-at-eq0 c =
    let a = c.args in
    unmarked a.n a.list.now a.marks.now (subst (λ (j : ℕ). get_or a.marks.now j 0 ≡ 0) c.from-at.ensures c.if-marks-at-eq0.true)

pub returns : goal.returns
returns c =
    let a = c.args in
    let k = c.delete_channel in
    subst (λ (j : ℕ). MarkedDropped a.n a.list.now a.marks.now k.new.list (set a.marks.now j 0)) (sym c.from-at.ensures)
    (unmark a.n a.list.now k.new.list a.marks.now k.ensures)
