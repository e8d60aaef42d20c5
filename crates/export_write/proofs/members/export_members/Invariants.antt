use Rattle.lists.proofs.Kit.{ℕ, length, ◌≤◌, ◌+◌, ◌*◌, ◌≡◌}
use Rattle.tables.specs.Layout.{member_width}
use Rattle.tables.specs.Limits.{slot_places}
use Rattle.export_write.specs.MemberWriters.{member_setting}
use Rattle.export_write.proofs.ChunkWalk.{Chunked}
use Rattle.export_write.proofs.MemberWriting.{member_slotted}
use Rattle.export_write.proofs.SlotWriting.{Placing}
use Rattle.export_write.proofs.members.export_members.Given as goal

abbrev pub invariant-loop-index : goal.invariant-loop-index
invariant-loop-index l =
    (i : ℕ) × (l.index-iterator.count ≡ i) × Chunked l.region (length l.region) member_width l.index-iterator.iter i × (length l.buffer ≡ length l.initial.buffer) × (8 ≤ l.end) × (l.end ≤ 8 + 42 * i)
    × Placing (member_slotted l.which) (member_setting l.which) slot_places l.region l.initial.buffer 8 l.buffer l.end i
