use Rattle.export.specs.PartWriters.{Numbered}
use Rattle.lists.proofs.Kit.{ℕ, ◌≤◌, sym, ap, ◌∙◌, subst, arith, length}
use Rattle.lists.specs.Ladder.{Answers}
use Rattle.std.specs.Prelude.{Result, Err}
use Rattle.export.specs.declared.parts.NoExport.{NoExport}
use Rattle.export.specs.Exporting.{exporting, told}
use Rattle.tables.proofs.AnswerLaws.{not_said, was_said}
use Rattle.export.proofs.ExportLaws.{refused_as, says_15, says_11, says_16, says_0}
use Rattle.export.proofs.exporting.export_in.Goals as goal

pub returns-then-buffer-limits : goal.returns-then-buffer-limits
returns-then-buffer-limits c = let a = c.args in (omega arith, λ x l. says_15 a.limits a.part a.store.now a.buffer.now (omega arith))

pub returns-then-not-is_store : goal.returns-then-not-is_store
returns-then-not-is_store c =
    let a = c.args in
    let k = c.is_store in
    (omega arith, λ x l. says_11 a.limits a.part a.store.now a.buffer.now (omega arith) (not_said k.result k.ensures c.if-not-is_store.true-raw))

pub returns-then-from-limits : goal.returns-then-from-limits
returns-then-from-limits c =
    let k = c.is_store in
    let s = was_said k.result k.ensures c.if-not-is_store.false-raw in
    (omega arith, λ x l. absurd (omega (arith, (c.seen-from.ensures s l).0, c.if-from-limits.true)))

pub write_part-settings-requires : goal.write_part-settings-requires
write_part-settings-requires c =
    let k = c.is_store in
    let s = was_said k.result k.ensures c.if-not-is_store.false-raw in
    (s.roomy, omega arith, omega arith)

pub returns-in_err-which : goal.returns-in_err-which
returns-in_err-which c =
    let a = c.args in
    let k = c.is_store in
    let n = c.in_err-which.ensures in
    let e = sym (refused_as _ _ c.from_residual.ensures.1 ∙ ap Err n.0) in (
      subst (λ (r : Result ℕ NoExport). (told r).request_length ≤ length a.buffer.now) e (omega arith),
      λ x l. subst (λ (r : Result ℕ NoExport). Answers (exporting a.limits a.part a.store.now a.buffer.now) (record { answer = told r; buffer = a.buffer.now })) e
          (says_16 a.limits a.part a.store.now a.buffer.now (omega arith) (was_said k.result k.ensures c.if-not-is_store.false-raw) n.2),
    )

pub returns : goal.returns
returns c =
    let a = c.args in
    let k = c.is_store in
    let s = was_said k.result k.ensures c.if-not-is_store.false-raw in
    let v = c.seen-from in
    let w = c.write_part-settings in
    let z = c.start_request in (
      z.ensures.0,
      λ x l. says_0 a.limits a.part a.store.now a.buffer.now c.in_ok-which.which v.result.now w.new.buffer z.new.buffer w.result z.result (omega (arith, c.if-buffer-limits.false)) s (v.ensures s l)
          (subst (Numbered a.part) c.in_ok-which.was c.try_from.ensures).1 (w.ensures x) z.ensures.1,
    )
