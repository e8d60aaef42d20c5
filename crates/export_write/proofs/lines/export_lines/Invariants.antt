use Rattle.lists.proofs.Kit.{ℕ, length, ◌≤◌, ◌+◌, ◌*◌, ◌≡◌}
use Rattle.tables.specs.Layout.{line_width}
use Rattle.export_write.specs.LineSettings.{line_add}
use Rattle.export_write.proofs.ChunkWalk.{Chunked}
use Rattle.export_write.proofs.LineWriting.{line_slotted}
use Rattle.export_write.proofs.ListWriting.{Adding}
use Rattle.export_write.proofs.lines.export_lines.Given as goal

abbrev pub invariant-loop-slot : goal.invariant-loop-slot
invariant-loop-slot l =
    (i : ℕ) × Chunked l.region l.lines line_width l.slot-iterator i × (length l.buffer ≡ length l.initial.buffer) × (l.initial.end ≤ l.end) × (l.end ≤ l.initial.end + 49 * i) × Adding line_slotted line_add l.region l.initial.buffer l.initial.end l.buffer l.end i
