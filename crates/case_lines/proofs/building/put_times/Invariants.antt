use Rattle.std.proofs.Common.{◌≤◌, length}
use Rattle.case_lines.proofs.building.put_times.Given as goal

abbrev pub invariant-loop-i : goal.invariant-loop-i
invariant-loop-i l = l.p ≤ length l.m
