use Rattle.lists.proofs.Kit.{◌+◌, ◌*◌, ◌≤◌, length}
use Rattle.shared_texts.specs.Moves.{placed_units}
use Rattle.working.proofs.SaveLaws.{Walking, Texting}
use Rattle.working.proofs.saving.save_texts.Given as goal

abbrev pub invariant-loop-i : goal.invariant-loop-i
invariant-loop-i l =
    Walking l.area l.slots l.initial.area l.run.own l.run.room l.run.many l.place l.to l.i × (l.from + 2 * placed_units l.run.own l.run.room l.run.many l.slots ≤ length l.initial.area → Texting l.area l.slots l.initial.area l.run.own l.run.room l.run.many l.from l.place l.to l.i)
