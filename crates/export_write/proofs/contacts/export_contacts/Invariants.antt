use Rattle.lists.proofs.Kit.{ℕ, length, ◌≤◌, ◌+◌, ◌*◌, ◌≡◌}
use Rattle.tables.specs.Layout.{member_width}
use Rattle.export_write.specs.ContactSettings.{contact_add}
use Rattle.export_write.specs.ContactWriters.{contact_room}
use Rattle.export_write.proofs.ChunkWalk.{Chunked}
use Rattle.export_write.proofs.ListWriting.{Adding}
use Rattle.export_write.proofs.MemberWriting.{member_slotted}
use Rattle.export_write.proofs.contacts.export_contacts.Given as goal

abbrev pub invariant-loop-slot : goal.invariant-loop-slot
invariant-loop-slot l =
    (i : ℕ) × Chunked l.region l.contacts member_width l.slot-iterator i × (length l.buffer ≡ length l.initial.buffer) × (l.initial.end ≤ l.end) × (l.end ≤ l.initial.end + i * contact_room l.which)
    × Adding (member_slotted l.which) (contact_add l.which) l.region l.initial.buffer l.initial.end l.buffer l.end i
