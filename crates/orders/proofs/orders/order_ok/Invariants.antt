use Prim.Native.Nat.{ℕ, ◌<◌, ◌*◌}
use Rattle.orders.specs.OrderParts.{Shaped, EntryOk, key_at}
use Rattle.orders.proofs.orders.order_ok.Given as goal

abbrev pub invariant-loop-i : goal.invariant-loop-i
invariant-loop-i l = Shaped l.w l.o l.k l.n l.s → (j : ℕ) → j < l.i → EntryOk (key_at l.w l.o l.k l.s) l.count l.s (l.n * l.w) j
