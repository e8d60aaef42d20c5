use Rattle.std.specs.Prelude.{Result}
use Rattle.lists.proofs.Kit.{sym}
use Rattle.lists.specs.Ladder.{Answers}
use Rattle.reports.specs.Reporting.{reporting}
use Rattle.reporting.specs.Told.{told}
use Rattle.reporting.specs.declared.answers.NoReport.{NoReport}
use Rattle.reporting.specs.declared.answers.Written.{Written}
use Rattle.lists.proofs.Kit.{arith, ℕ, ap, subst, subst⁻¹, List, length, drop}
use Rattle.tables.proofs.AnswerLaws.{not_said, was_said}
use Rattle.reporting.specs.Asking.{QueryIs}
use Rattle.reports.specs.Reports.{TypesOf}
use Rattle.reporting.proofs.AskLaws.{query_long, types_are}
use Rattle.reporting.proofs.ReportLaws.{refused_as, says_15, says_11, says_refused, goes_on}
use Rattle.reporting.proofs.report.report_in.Goals as goal

pub returns-then-buffer-limits : goal.returns-then-buffer-limits
returns-then-buffer-limits c =
    let a = c.args in
    λ x l. says_15 a.limits a.query.now a.index a.store.now a.buffer.now (omega arith)

pub returns-then-not-is_store : goal.returns-then-not-is_store
returns-then-not-is_store c =
    let a = c.args in
    let k = c.is_store in
    λ x l. says_11 a.limits a.query.now a.index a.store.now a.buffer.now (omega arith) (not_said k.result k.ensures c.if-not-is_store.true-raw)

pub returns-then-from-limits : goal.returns-then-from-limits
returns-then-from-limits c =
    let k = c.is_store in
    let s = was_said k.result k.ensures c.if-not-is_store.false-raw in
    λ x l. absurd (omega (arith, (c.seen-from.ensures s l).0, c.if-from-limits.true))

pub slice_bounds-report_types-count : goal.slice_bounds-report_types-count
slice_bounds-report_types-count c =
    let a = c.args in
    let q = subst (QueryIs a.limits.message a.query.now) c.in_ok-read_query.was c.read_query.ensures in
    omega (arith, query_long a.query.now q.1)

pub slice_bounds-report_types-start : goal.slice_bounds-report_types-start
slice_bounds-report_types-start c =
    let a = c.args in
    let q = subst (QueryIs a.limits.message a.query.now) c.in_ok-read_query.was c.read_query.ensures in
    omega (arith, query_long a.query.now q.1)

pub slice_bounds-report_types-end : goal.slice_bounds-report_types-end
slice_bounds-report_types-end c =
    let a = c.args in
    let q = subst (QueryIs a.limits.message a.query.now) c.in_ok-read_query.was c.read_query.ensures in
    omega (arith, query_long a.query.now q.1)

pub report_types-requires : goal.report_types-requires
report_types-requires c =
    let a = c.args in
    let q = subst (QueryIs a.limits.message a.query.now) c.in_ok-read_query.was c.read_query.ensures in
    let k = c.is_store in
    let s = was_said k.result k.ensures c.if-not-is_store.false-raw in
    (s.roomy, omega arith, omega (arith, ap length (types_are a.query.now q.1), q.1.1), omega arith)

pub returns-in_err-read_query : goal.returns-in_err-read_query
returns-in_err-read_query c =
    let a = c.args in
    let k = c.is_store in
    λ x l. subst (λ (r : Result Written NoReport). Answers (reporting a.limits a.query.now a.index a.store.now a.buffer.now) (record { answer = told r; buffer = a.buffer.now })) (sym (refused_as _ _ c.from_residual.ensures.1))
    (says_refused a.limits a.query.now a.index a.store.now a.buffer.now (omega arith) (was_said k.result k.ensures c.if-not-is_store.false-raw) c.in_err-read_query.field-0.0 (subst (QueryIs a.limits.message a.query.now) c.in_err-read_query.was c.read_query.ensures))

pub returns : goal.returns
returns c =
    let a = c.args in
    let q = subst (QueryIs a.limits.message a.query.now) c.in_ok-read_query.was c.read_query.ensures in
    let k = c.is_store in
    let s = was_said k.result k.ensures c.if-not-is_store.false-raw in
    let v = c.seen-from in
    let w = c.report_types in
    λ x l. goes_on a.limits a.query.now a.index a.store.now a.buffer.now (omega (arith, c.if-buffer-limits.false)) s (drop 8 a.query.now) q.0 q.1.0 _ (w.ensures x a.query.now a.store.now (subst⁻¹ (λ (l : List ℕ). TypesOf l a.query.now) (types_are a.query.now q.1) q.1.0) s (v.ensures s l))
