use Rattle.lists.proofs.Kit.{rules, ◌≤◌, ◌-◌, ◌≡◌, refl, ◌∙◌, arith, length}
use Rattle.tables.specs.Forms.{Roomy}
use Rattle.tables.specs.Store.{Holds}
use Rattle.tables.specs.Tables.{Tables}
use Rattle.export.specs.Exportable.{Exportable}
use Rattle.export.specs.Exported.{ten}
use Rattle.restore.specs.Restored.{Ready}
use Rattle.restore.specs.Restoring.{Lent}
use Rattle.restore.proofs.RestoreLaws.{SoFar, so_far_start, so_far_on, so_far_end}
use Rattle.restore.proofs.restore.move_parts.Given as goal

abbrev pub invariant-loop-done : goal.invariant-loop-done
invariant-loop-done l =
    (length l.to ≡ length l.initial.to) × (length l.buffer ≡ length l.initial.buffer) × (length l.reply ≡ length l.initial.reply) × (length l.work ≡ length l.initial.work) × (l.done ≤ length ten) × ((t u : Tables) → Exportable l.limits → Roomy l.limits → Holds l.limits t l.from → Holds l.limits u l.initial.to → Ready l.limits.texts u → Lent l.limits l.initial.buffer l.initial.reply l.initial.work → SoFar l.limits l.from l.initial.to l.initial.buffer l.initial.reply t u l.done l.to l.buffer l.reply)
