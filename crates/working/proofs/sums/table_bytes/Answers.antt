use Rattle.lists.proofs.Kit.{subst, arith}
use Rattle.tables.proofs.AnswerLaws.{not_said, was_said}
use Rattle.working.specs.Runs.{NumberIs}
use Rattle.working.proofs.SumLaws.{works_length, none_sum, table_summed}
use Rattle.working.proofs.sums.table_bytes.Goals as goal

pub returns-then-not-is_sized : goal.returns-then-not-is_sized
returns-then-not-is_sized c = λ t roomy w. absurd (not_said c.is_sized.result c.is_sized.ensures c.if-not-is_sized.true-raw (works_length _ t _ roomy w, roomy))

pub returns-in_default : goal.returns-in_default
returns-in_default c =
    λ t roomy w. none_sum c.args.kind (subst (NumberIs c.args.kind) c.in_default.is c.number_of.ensures) t

pub run_of-run-requires : goal.run_of-run-requires
run_of-run-requires c =
    let s = c.is_sized in
    let (l, r) = was_said s.result s.ensures c.if-not-is_sized.false-raw in
    ((subst (NumberIs c.args.kind) c.in-Some.is c.number_of.ensures).1, omega (arith, r.few_channels), omega (arith, r.few_lines))

pub run_bytes-requires : goal.run_bytes-requires
run_bytes-requires c =
    let s = c.is_sized in
    let (l, r) = was_said s.result s.ensures c.if-not-is_sized.false-raw in
    (c.run_of-run.ensures.1, omega (arith, l, r.fits, c.run_of-run.ensures.2))

pub returns : goal.returns
returns c =
    let a = c.args in
    let n = subst (NumberIs a.kind) c.in-Some.is c.number_of.ensures in
    table_summed a.limits a.work.now c.run_bytes.result a.kind c.in-Some.k c.run_of-run.result n.0 n.1 c.run_of-run.ensures.0 c.run_bytes.ensures.0
