use Rattle.std.specs.Prelude.{Result}
use Rattle.lists.proofs.Kit.{ℕ, rules, ◌≤◌, ◌≡◌, subst, false, length}
use Rattle.lists.specs.Ladder.{Answers}
use Rattle.working.specs.Seen.{Lends}
use Rattle.export.specs.declared.parts.NoExport.{NoExport}
use Rattle.export.specs.Exportable.{Exportable}
use Rattle.export.specs.Exporting.{exporting, told}
use Rattle.updating.proofs.ProposeLaws.{first_unwritten, second_unwritten, compared}
use Rattle.updating.proofs.proposing.same_part.Goals as goal

pub returns-in_default : goal.returns-in_default
returns-in_default c =
    let s = c.args in
    let k = c.export_in-one in
    first_unwritten s.limits s.part s.first.now s.second.now s.a.now s.b.now s.work.now k.new.buffer c.in_default.field-0 false
    (subst (λ (r : Result ℕ NoExport). Exportable s.limits → Lends s.limits s.work.now → Answers (exporting s.limits s.part s.first.now s.a.now) (record { answer = told r; buffer = k.new.buffer })) c.in_default.is k.ensures.1)

pub returns-in_default-other : goal.returns-in_default-other
returns-in_default-other c =
    let s = c.args in
    let k = c.export_in-one in
    let z = c.export_in-other in
    let lent : length k.new.work ≡ length s.work.now = search rules in
    second_unwritten s.limits s.part s.first.now s.second.now s.a.now s.b.now s.work.now k.new.work lent z.new.buffer c.in_default-other.field-0 false
    (subst (λ (r : Result ℕ NoExport). Exportable s.limits → Lends s.limits k.new.work → Answers (exporting s.limits s.part s.second.now s.b.now) (record { answer = told r; buffer = z.new.buffer })) c.in_default-other.is z.ensures.1)

pub slice_bounds-alike-end : goal.slice_bounds-alike-end
slice_bounds-alike-end c =
    let k = c.export_in-one in
    let h : c.in-Ok.m ≤ length k.new.buffer = subst (λ (r : Result ℕ NoExport). (told r).request_length ≤ length k.new.buffer) c.in-Ok.is k.ensures.0 in
    search rules

pub slice_bounds-alike-end-2 : goal.slice_bounds-alike-end-2
slice_bounds-alike-end-2 c =
    let k = c.export_in-other in
    let h : c.in-Ok-other.n ≤ length k.new.buffer = subst (λ (r : Result ℕ NoExport). (told r).request_length ≤ length k.new.buffer) c.in-Ok-other.is k.ensures.0 in
    search rules

pub returns : goal.returns
returns c =
    let s = c.args in
    let k = c.export_in-one in
    let z = c.export_in-other in
    let lent : length k.new.work ≡ length s.work.now = search rules in
    compared s.limits s.part s.first.now s.second.now s.a.now s.b.now s.work.now k.new.work lent k.new.buffer z.new.buffer c.in-Ok.m c.in-Ok-other.n c.alike.result
    (subst (λ (r : Result ℕ NoExport). Exportable s.limits → Lends s.limits s.work.now → Answers (exporting s.limits s.part s.first.now s.a.now) (record { answer = told r; buffer = k.new.buffer })) c.in-Ok.is k.ensures.1)
    (subst (λ (r : Result ℕ NoExport). Exportable s.limits → Lends s.limits k.new.work → Answers (exporting s.limits s.part s.second.now s.b.now) (record { answer = told r; buffer = z.new.buffer })) c.in-Ok-other.is z.ensures.1)
    c.alike.ensures
