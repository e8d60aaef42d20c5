use Rattle.std.proofs.Common.{◌≤◌, length}
use Rattle.case_lines.proofs.building.put.Given as goal

abbrev pub invariant-loop-c : goal.invariant-loop-c
invariant-loop-c l = l.p ≤ length l.m
