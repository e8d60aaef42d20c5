use Rattle.lists.proofs.Kit.{rules, ◌≤◌, ◌-◌, ◌≡◌, refl, ◌∙◌, arith, length}
use Rattle.tables.specs.Forms.{Roomy}
use Rattle.tables.specs.Store.{Holds}
use Rattle.tables.specs.Tables.{Tables}
use Rattle.export.specs.Exportable.{Exportable}
use Rattle.export.specs.Exported.{ten}
use Rattle.restore.specs.Restored.{Ready}
use Rattle.restore.specs.Restoring.{Lent}
use Rattle.restore.proofs.RestoreLaws.{SoFar, so_far_start, so_far_on, so_far_end}
use Rattle.restore.proofs.restore.move_parts.Goals as goal

pub loop-done-init : goal.loop-done-init
loop-done-init c =
    let a = c.args in
    (refl, refl, refl, refl, omega arith, λ t u x room h i ready lent. so_far_start a.limits a.from.now a.to.now a.buffer.now a.reply.now t u i)

pub loop-done-preserved : goal.loop-done-preserved
loop-done-preserved c =
    let a = c.args in
    let l = c.loop-done in
    let k = c.move_part in (
      search rules,
      search rules,
      search rules,
      search rules,
      search rules,
      λ t u x room h i ready lent. so_far_on a.limits a.from.now a.to.now a.buffer.now a.reply.now t u l.done l.to l.buffer l.reply l.work _ _ _ (omega (arith, c.loop-done-test.true)) x room h ready
          (record { message = omega (arith, lent.message, l.invariant.1); answer = omega (arith, lent.answer, l.invariant.2); copy = l.invariant.3 ∙ lent.copy }) (l.invariant.5 t u x room h i ready lent) k.ensures,
    )

pub returns : goal.returns
returns c =
    let a = c.args in
    let l = c.loop-done in
    λ t u x room h i ready lent. so_far_end a.limits a.from.now a.to.now a.buffer.now a.reply.now t u l.done _ _ _ (omega (arith, l.invariant.4, c.loop-done-test.false)) (l.invariant.5 t u x room h i ready lent)
