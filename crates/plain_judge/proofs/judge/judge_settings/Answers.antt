use Rattle.lists.proofs.Kit.{rules, refl, subst, arith}
use Rattle.plain_judge.specs.Judging.{StepIs}
use Rattle.plain_judge.proofs.JudgeLaws.{going_start, going_on, going_fault, going_over, going_end}
use Rattle.plain_judge.proofs.judge.judge_settings.Goals as goal

pub loop-taken-init : goal.loop-taken-init
loop-taken-init c =
    let a = c.args in
    (refl, omega arith, λ ds was g w. going_start a.m.now a.request ds was a.log.now a.weights.now a.logged g w)

pub returns-in-Err : goal.returns-in-Err
returns-in-Err c =
    let a = c.args in
    let l = c.loop-taken in
    let k = c.judge_setting-step in
    let z = subst (StepIs a.log.now a.logged a.m.now a.request l.p l.taken l.passed l.weights k.new.weights) c.in-Err.is k.ensures in
    λ ds was g w.
    let (s, t, x, i) = l.invariant.2 ds was g w in
    going_fault a.m.now a.request ds was l.p l.taken l.passed l.weights s t x _ c.loop-taken-test.true (z ds was s t g x c.loop-taken-test.true)

pub loop-taken-preserved : goal.loop-taken-preserved
loop-taken-preserved c =
    let a = c.args in
    let l = c.loop-taken in
    let k = c.judge_setting-step in
    let z = subst (StepIs a.log.now a.logged a.m.now a.request l.p l.taken l.passed l.weights k.new.weights) c.in-Ok.is k.ensures in (
      search rules,
      search rules,
      λ ds was g w.
          let (s, t, x, i) = l.invariant.2 ds was g w in
          let (one, u, y, e) = z ds was s t g x c.loop-taken-test.true in
          going_on a.m.now a.request ds was l.p l.taken l.passed l.weights s t x (λ i. (c.shared_slice_known-2-1.given i).fits) k.new.weights _ _ _ c.loop-taken-test.true one u y e,
    )

pub returns-then-p-m : goal.returns-then-p-m
returns-then-p-m c =
    let a = c.args in
    let l = c.loop-taken in
    λ ds was g w.
    let (s, t, x, i) = l.invariant.2 ds was g w in
    going_over a.m.now a.request ds was l.p l.taken l.passed l.weights s t x c.loop-taken-test.false l.invariant.1 c.if-p-m.true

pub returns : goal.returns
returns c =
    let a = c.args in
    let l = c.loop-taken in
    λ ds was g w.
    let (s, t, x, i) = l.invariant.2 ds was g w in
    going_end a.m.now a.request ds was l.p l.taken l.passed l.weights s t x l.item i (omega arith) c.loop-taken-test.false l.invariant.1 c.if-p-m.false
