use Rattle.lists.proofs.Kit.{ℕ, ◌≤◌, ◌≡◌, ◌+◌, length, List}
use Rattle.std.specs.Slice.Iter.{chunks_exact_rest, chunks_exact_size}
use Rattle.slots.specs.Slots.{flat, Slots, hit}
use Rattle.counted_lists.proofs.KeyLaws.{Tally}
use Rattle.counted_lists.proofs.keys.others.Given as goal

-- `counted_lists::keys::others` meets its contract. Assumes nothing.
abbrev pub invariant-loop-slot : goal.invariant-loop-slot
invariant-loop-slot l =
    (l.n + length (chunks_exact_rest l.slot-iterator) ≤ length l.s) × (chunks_exact_size l.slot-iterator ≡ l.w)
    × ((xs : List (List ℕ)) → Slots l.w xs → l.s ≡ flat xs → Tally (hit l.o l.key) l.w (chunks_exact_rest l.slot-iterator) l.n xs)
