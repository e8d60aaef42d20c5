use Prim.Native.Nat.{◌≤◌, ◌-◌}
use mathlib.Core.Path.{◌≡◌}
use lib.ListN.{length, drop}
use Rattle.orders.specs.Orders.{before}
use Rattle.orders.proofs.keys.less.Given as goal

abbrev pub invariant-loop-i : goal.invariant-loop-i
invariant-loop-i l = (l.i ≤ length l.a) × ((l.i ≤ length l.b) × (before l.a l.b ≡ before (drop l.i l.a) (drop l.i l.b)))

abbrev pub decreases-loop-i : goal.decreases-loop-i
decreases-loop-i l = length l.a - l.i
