use Rattle.lists.proofs.Kit.{ℕ, ◌≤◌, ◌≡◌, length, drop, List}
use Rattle.std.specs.Slice.Iter.{chunks_exact_rest, chunks_exact_size}
use Rattle.slots.specs.Slots.{flat, Slots, hit}
use Rattle.slots.proofs.Search.{Rest}
use Rattle.counted_lists.proofs.keys.find_key.Given as goal

-- `counted_lists::keys::find_key` meets its contract. Assumes nothing.
abbrev pub invariant-loop-slot : goal.invariant-loop-slot
invariant-loop-slot l =
    (l.at ≤ length l.s) × (chunks_exact_size l.slot-iterator ≡ l.w) × (chunks_exact_rest l.slot-iterator ≡ drop l.at l.s)
    × ((xs : List (List ℕ)) → Slots l.w xs → l.s ≡ flat xs → Rest (hit l.o l.key) l.s l.w l.at xs)
