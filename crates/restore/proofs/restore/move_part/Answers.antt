use Rattle.std.specs.Prelude.{Result}
use Rattle.lists.proofs.Kit.{ℕ, rules, ◌≤◌, ◌≡◌, refl, ◌∙◌, subst, length}
use Rattle.lists.specs.Ladder.{Answers}
use Rattle.working.specs.Seen.{Lends}
use Rattle.export.specs.declared.parts.NoExport.{NoExport}
use Rattle.export.specs.Exportable.{Exportable}
use Rattle.export.specs.Exporting.{exporting, told}
use Rattle.restore.proofs.RestoreLaws.{not_moved, moved}
use Rattle.restore.proofs.restore.move_part.Goals as goal

pub returns-in_default : goal.returns-in_default
returns-in_default c =
    let a = c.args in
    let k = c.export_in-written in
    not_moved a.limits a.part a.from.now a.to.now a.buffer.now k.new.buffer a.reply.now a.to.now a.reply.now a.work.now c.in_default.field-0
    (subst (λ (r : Result ℕ NoExport). Exportable a.limits → Lends a.limits a.work.now → Answers (exporting a.limits a.part a.from.now a.buffer.now) (record { answer = told r; buffer = k.new.buffer })) c.in_default.is k.ensures.1)

pub slice_bounds-commit_for-end : goal.slice_bounds-commit_for-end
slice_bounds-commit_for-end c =
    let k = c.export_in-written in
    let h : c.in-Ok.length ≤ length k.new.buffer = subst (λ (r : Result ℕ NoExport). (told r).request_length ≤ length k.new.buffer) c.in-Ok.is k.ensures.0 in
    search rules

pub returns : goal.returns
returns c =
    let a = c.args in
    let k = c.export_in-written in
    let z = c.commit_for in
    let lent : length k.new.work ≡ length a.work.now = search rules in
    moved a.limits a.part a.from.now a.to.now a.buffer.now k.new.buffer a.reply.now _ _ a.work.now _ c.in-Ok.length z.result (subst (λ (r : Result ℕ NoExport). Exportable a.limits → Lends a.limits a.work.now → Answers (exporting a.limits a.part a.from.now a.buffer.now) (record { answer = told r; buffer = k.new.buffer })) c.in-Ok.is k.ensures.1) refl (λ h. z.ensures (lent ∙ h))
