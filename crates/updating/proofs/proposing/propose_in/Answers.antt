use Rattle.std.specs.Prelude.{Result}
use Rattle.lists.proofs.Kit.{ℕ, rules, ◌≡◌, subst, length}
use Rattle.lists.specs.Ladder.{Answers}
use Rattle.tables.proofs.AnswerLaws.{not_said, was_said}
use Rattle.working.specs.Seen.{Lends}
use Rattle.export.specs.declared.parts.NoExport.{NoExport}
use Rattle.export.specs.Exportable.{Exportable}
use Rattle.export.specs.Exporting.{exporting, told}
use Rattle.updating.specs.Updating.{AllCompared}
use Rattle.updating.proofs.ProposeLaws.{says_first, says_second, says_15, says_no_single, says_written, says_nothing}
use borrow.Enum.Refused.{opened as is_one_of}
use Rattle.updating.proofs.proposing.propose_in.Goals as goal

pub returns-then-not-is_store : goal.returns-then-not-is_store
returns-then-not-is_store c =
    let a = c.args in
    λ x i j k. says_first a.limits a.first.now a.second.now a.buffer.now (not_said c.is_store.result c.is_store.ensures c.if-not-is_store.true-raw)

pub returns-then-not-is_store-2 : goal.returns-then-not-is_store-2
returns-then-not-is_store-2 c =
    let a = c.args in
    let s = was_said c.is_store.result c.is_store.ensures c.if-not-is_store.false-raw in
    λ x i j k. says_second a.limits a.first.now a.second.now a.buffer.now s (not_said c.is_store-2.result c.is_store-2.ensures c.if-not-is_store-2.true-raw)

pub returns-then-buffer-limits : goal.returns-then-buffer-limits
returns-then-buffer-limits c =
    let a = c.args in
    let s = was_said c.is_store.result c.is_store.ensures c.if-not-is_store.false-raw in
    let z = was_said c.is_store-2.result c.is_store-2.ensures c.if-not-is_store-2.false-raw in
    λ x i j k. says_15 a.limits a.first.now a.second.now a.buffer.now s z c.if-buffer-limits.true

pub returns-in_default : goal.returns-in_default
returns-in_default c =
    let a = c.args in
    let s = was_said c.is_store.result c.is_store.ensures c.if-not-is_store.false-raw in
    let z = was_said c.is_store-2.result c.is_store-2.ensures c.if-not-is_store-2.false-raw in
    let p = c.compare_parts-found in
    λ x i j k. says_no_single a.limits a.first.now a.second.now a.buffer.now s z c.if-buffer-limits.false x a.a.now a.b.now a.work.now i j k p.result (is_one_of c.in_default.in_default-own.keys2) p.ensures

pub returns-in_default-written : goal.returns-in_default-written
returns-in_default-written c =
    let a = c.args in
    let s = was_said c.is_store.result c.is_store.ensures c.if-not-is_store.false-raw in
    let z = was_said c.is_store-2.result c.is_store-2.ensures c.if-not-is_store-2.false-raw in
    let p = c.compare_parts-found in
    let e = c.export_in-written in
    let lent : length p.new.work ≡ length a.work.now = search rules in
    λ x i j k. says_nothing a.limits a.first.now a.second.now a.buffer.now s z c.if-buffer-limits.false x a.a.now a.b.now a.work.now i j k c.in-One.part
    (subst (AllCompared a.limits a.first.now a.second.now a.a.now a.b.now a.work.now) c.in-One.is p.ensures) p.new.work e.new.buffer lent c.in_default-written.field-0 _
    (subst (λ (r : Result ℕ NoExport). Exportable a.limits → Lends a.limits p.new.work → Answers (exporting a.limits c.in-One.part a.second.now a.buffer.now) (record { answer = told r; buffer = e.new.buffer })) c.in_default-written.is e.ensures.1)

pub returns : goal.returns
returns c =
    let a = c.args in
    let s = was_said c.is_store.result c.is_store.ensures c.if-not-is_store.false-raw in
    let z = was_said c.is_store-2.result c.is_store-2.ensures c.if-not-is_store-2.false-raw in
    let p = c.compare_parts-found in
    let e = c.export_in-written in
    let lent : length p.new.work ≡ length a.work.now = search rules in
    λ x i j k. says_written a.limits a.first.now a.second.now a.buffer.now s z c.if-buffer-limits.false x a.a.now a.b.now a.work.now i j k c.in-One.part
    (subst (AllCompared a.limits a.first.now a.second.now a.a.now a.b.now a.work.now) c.in-One.is p.ensures) p.new.work e.new.buffer lent c.in-Ok.length
    (subst (λ (r : Result ℕ NoExport). Exportable a.limits → Lends a.limits p.new.work → Answers (exporting a.limits c.in-One.part a.second.now a.buffer.now) (record { answer = told r; buffer = e.new.buffer })) c.in-Ok.is e.ensures.1)
