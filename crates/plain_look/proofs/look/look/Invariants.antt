use Rattle.plain_look.proofs.LookLaws.{Looks}
use Rattle.plain_look.proofs.look.look.Given as goal

abbrev pub invariant-loop-i : goal.invariant-loop-i
invariant-loop-i l = Looks l.m l.first l.count l.kind l.key l.initial.here l.initial.now_known l.here l.now_known l.i
