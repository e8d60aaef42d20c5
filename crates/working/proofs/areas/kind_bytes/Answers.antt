use Rattle.lists.proofs.Kit.{refl, subst, arith}
use Rattle.tables.proofs.AnswerLaws.{not_said, was_said}
use Rattle.working.specs.Runs.{text_number, NumberIs}
use Rattle.working.proofs.FormMoves.{kind_none, kind_summed}
use Rattle.working.proofs.areas.kind_bytes.Goals as goal

pub returns-in_default : goal.returns-in_default
returns-in_default c =
    let a = c.args in
    let n = subst (NumberIs a.kind) c.in_default.is c.number_of.ensures in
    kind_none a.limits a.kind a.store.now (text_number a.kind) refl (λ h. absurd (omega (arith, n, h.table)))

pub returns-then-not-has_head : goal.returns-then-not-has_head
returns-then-not-has_head c =
    let a = c.args in
    let n = subst (NumberIs a.kind) c.in-Some.is c.number_of.ensures in
    kind_none a.limits a.kind a.store.now c.in-Some.k n.0 (not_said c.has_head.result c.has_head.ensures c.if-not-has_head.true-raw)

pub run_of-run-requires : goal.run_of-run-requires
run_of-run-requires c = let h = was_said c.has_head.result c.has_head.ensures c.if-not-has_head.false-raw in (h.table, h.few_channels, h.few_lines)

pub run_units-requires : goal.run_units-requires
run_units-requires c =
    let h = was_said c.has_head.result c.has_head.ensures c.if-not-has_head.false-raw in
    (c.run_of-run.ensures.1, omega (arith, c.run_of-run.ensures.2.heads, h.heads), omega arith)

pub returns : goal.returns
returns c =
    let a = c.args in
    let n = subst (NumberIs a.kind) c.in-Some.is c.number_of.ensures in
    let d = c.has_head in
    let h = was_said d.result d.ensures c.if-not-has_head.false-raw in
    kind_summed a.limits a.kind a.store.now c.in-Some.k n.0 c.run_of-run.result c.run_units.result h.table c.run_of-run.ensures.0 c.run_units.ensures.0
