use Rattle.lists.proofs.Kit.{ℕ, ◌-◌, ◌*◌, ◌≡◌, length, List}
use Rattle.slots.specs.Slots.{Slots, flat, KeyAt}
use Rattle.slots.proofs.Gaps.{Gone}
use Rattle.slots.proofs.slots.remove_all.Given as goal

abbrev pub invariant-loop-k : goal.invariant-loop-k
invariant-loop-k l = (length l.s ≡ length l.initial.s) × KeyAt l.w l.o l.key × ((xs : List (List ℕ)) → Slots l.w xs → l.initial.s ≡ flat xs → Gone l.w l.o l.key xs l.s (length l.initial.s - l.k * l.w))
