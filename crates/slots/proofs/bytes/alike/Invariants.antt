use Rattle.lists.proofs.Kit.{◌≡◌, ◌&&◌, drop}
use Rattle.slots.specs.Slots.{same?}
use Rattle.slots.proofs.bytes.alike.Given as goal

abbrev pub invariant-loop-i : goal.invariant-loop-i
invariant-loop-i l = same? l.a l.b ≡ (l.all && same? (drop l.i l.a) (drop l.i l.b))
