use Rattle.lists.proofs.Kit.{arith, ℕ, ◌+◌, ◌<◌, subst⁻¹}
use Rattle.plain_look.proofs.RowLooks.{Rows, rows_found, rows_passed, rows_none}
use Rattle.plain_look.proofs.rows.listed_row.Goals as goal
use Rattle.plain_look.proofs.rows.listed_row.Goals.{in-Some+else-before-eq0, in_default}

pub returns-then-before-eq0 : goal.returns-then-before-eq0
returns-then-before-eq0 c =
    let a = c.args in
    let l = c.loop-i in
    let n = c.next_deed-moved in
    let b = c.born_here in
    rows_found a.m.now a.cursor a.count a.kind a.position l.here n.result b.result l.before l.i (omega arith) n.ensures b.ensures l.invariant _ c.in-Some.is c.if-before-eq0.true

pub loop-i-preserved : goal.loop-i-preserved
loop-i-preserved c =
    let a = c.args in
    let l = c.loop-i in
    let n = c.next_deed-moved in
    let b = c.born_here in
    let less : l.i < a.count = omega arith in
    elim c.match-born_here.branch [
      | in-Some+else-before-eq0 w ↦ subst⁻¹ (λ (x : ℕ). Rows a.m.now a.cursor a.count a.kind a.position n.result.cursor x (l.i + 1)) w.before-is
          (rows_passed a.m.now a.cursor a.count a.kind a.position l.here n.result b.result l.before l.i less n.ensures b.ensures l.invariant _ w.in-Some.is w.if-before-eq0.false)
      | in_default w ↦ subst⁻¹ (λ (x : ℕ). Rows a.m.now a.cursor a.count a.kind a.position n.result.cursor x (l.i + 1)) w.before-is
          (rows_none a.m.now a.cursor a.count a.kind a.position l.here n.result b.result l.before l.i less n.ensures b.ensures l.invariant w.in_default.is)
    ]
