use Rattle.lists.proofs.Kit.{ℕ, length, ◌≤◌, ◌+◌, ◌*◌, ◌≡◌}
use Rattle.tables.specs.Layout.{line_width}
use Rattle.tables.specs.Limits.{slot_places}
use Rattle.export_write.specs.LineSettings.{line_slot_setting}
use Rattle.export_write.proofs.ChunkWalk.{Chunked}
use Rattle.export_write.proofs.LineWriting.{line_slotted}
use Rattle.export_write.proofs.SlotWriting.{Placing}
use Rattle.export_write.proofs.line_slots.export_line_slots.Given as goal

abbrev pub invariant-loop-index : goal.invariant-loop-index
invariant-loop-index l =
    (i : ℕ) × (l.index-iterator.count ≡ i) × Chunked l.region (length l.region) line_width l.index-iterator.iter i × (length l.buffer ≡ length l.initial.buffer) × (8 ≤ l.end) × (l.end ≤ 8 + 49 * i)
    × Placing line_slotted line_slot_setting slot_places l.region l.initial.buffer 8 l.buffer l.end i
