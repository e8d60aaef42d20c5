use Rattle.std.specs.Prelude.{Result}
use Rattle.lists.proofs.Kit.{ℕ, rules, ◌≤◌, length, subst}
use Rattle.lists.specs.Ladder.{Answers}
use Rattle.tables.specs.Limits.{handheld}
use Rattle.export.specs.declared.parts.NoExport.{NoExport}
use Rattle.export.specs.Exporting.{exporting, told}
use Rattle.export.proofs.ExportLaws.{written_within}
use Rattle.put.proofs.put_part.Goals as goal

pub slice_bounds-write_all-end-2 : goal.slice_bounds-write_all-end-2
slice_bounds-write_all-end-2 g c =
    let a = c.args in
    let k = c.export-written in
    let h : c.in-Ok.length ≤ length k.new.buffer = written_within handheld a.part a.store.now a.buffer.now k.new.buffer _ (subst (λ (r : Result ℕ NoExport). Answers (exporting handheld a.part a.store.now a.buffer.now) (record { answer = told r; buffer = k.new.buffer })) c.in-Ok.is k.ensures) in
    search rules
