use Rattle.lists.proofs.Kit.{◌≡◌, ◌≤◌, ◌+◌, ◌*◌, length}
use Rattle.export_write.proofs.ChannelWriting.{Packed}
use Rattle.export_write.proofs.channels.write_packed.Given as goal

abbrev pub invariant-loop-i : goal.invariant-loop-i
invariant-loop-i l = (length l.buffer ≡ length l.initial.buffer) × (l.i ≤ l.pairs) × (l.to ≡ l.at + 3 * l.i) × Packed l.region l.initial.buffer l.buffer l.count l.at l.to l.i
