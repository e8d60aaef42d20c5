use Prim.Native.Nat.{◌≤◌}
use mathlib.Core.Path.{◌≡◌}
use mathlib.Core.List.{◌∷◌, ◌++◌}
use lib.ListN.{length, drop, take}
use Rattle.orders.proofs.entries.put_in.Given as goal

abbrev pub invariant-loop-i : goal.invariant-loop-i
invariant-loop-i l = (length l.d ≡ length l.initial.d) × (l.at ≤ length l.initial.d → take l.i l.d ++ (l.next ∷ drop l.i l.d) ≡ take l.at l.initial.d ++ (l.v ∷ drop l.at l.initial.d))
