use Rattle.plain_look.proofs.RowLooks.{Rows}
use Rattle.plain_look.proofs.rows.listed_row.Given as goal

abbrev pub invariant-loop-i : goal.invariant-loop-i
invariant-loop-i l = Rows l.m l.cursor l.count l.kind l.position l.here l.before l.i
