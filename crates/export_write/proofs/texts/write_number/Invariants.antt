use Rattle.lists.proofs.Kit.{◌≡◌, length, ◌≤◌}
use Rattle.export_write.proofs.NumberWriting.{Numbered}
use Rattle.export_write.proofs.texts.write_number.Given as goal

abbrev pub invariant-loop-i : goal.invariant-loop-i
invariant-loop-i l = (length l.buffer ≡ length l.initial.buffer) × (l.i ≤ l.pairs) × Numbered l.digits l.initial.buffer l.buffer l.at l.i
