use Prim.Native.Nat.{ℕ, ◌≤◌, ◌-◌}
use mathlib.Core.List.{List}
use Rattle.orders.specs.OrderParts.{Lists, Parts, key_at}
use Rattle.orders.proofs.orders.place.Given as goal

abbrev pub invariant-loop-lo : goal.invariant-loop-lo
invariant-loop-lo l = (l.lo ≤ l.hi) × ((l.hi ≤ l.count) × ((ps : List ℕ) → Lists l.w l.o l.k l.n l.count l.s ps → Parts (key_at l.w l.o l.k l.s) ps l.key l.lo l.hi))

abbrev pub decreases-loop-lo : goal.decreases-loop-lo
decreases-loop-lo l = l.hi - l.lo
