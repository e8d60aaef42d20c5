use Rattle.lists.proofs.Kit.{◌-◌, refl, subst, arith}
use Rattle.joining.specs.Checking.{StepIs}
use Rattle.joining.proofs.CheckLaws.{along_start, along_on, along_fault, along_over, along_ff, along_good}
use Rattle.joining.proofs.checks.check_settings.Goals as goal

pub loop-taken-init : goal.loop-taken-init
loop-taken-init c = let a = c.args in
    (omega arith, along_start a.m.now a.at a.head)

pub returns-in-Unknown : goal.returns-in-Unknown
returns-in-Unknown c = let a = c.args in
    let l = c.loop-taken in
    let z = subst (StepIs a.head.coding (a.head.count - l.taken - 1) a.m.now l.p) c.in-Unknown.is c.check_setting-step.ensures in
    (_, along_fault a.m.now a.at a.head l.p l.taken l.last l.invariant.1 3 c.loop-taken-test.true z, (refl, refl))

pub returns-in-Field : goal.returns-in-Field
returns-in-Field c = let a = c.args in
    let l = c.loop-taken in
    let z = subst (StepIs a.head.coding (a.head.count - l.taken - 1) a.m.now l.p) c.in-Field.is c.check_setting-step.ensures in
    (_, along_fault a.m.now a.at a.head l.p l.taken l.last l.invariant.1 4 c.loop-taken-test.true z, (refl, refl))

pub loop-taken-preserved : goal.loop-taken-preserved
loop-taken-preserved c = let a = c.args in
    let l = c.loop-taken in
    let z = subst (StepIs a.head.coding (a.head.count - l.taken - 1) a.m.now l.p) c.in-Next.is c.check_setting-step.ensures in
    (omega arith, along_on a.m.now a.at a.head l.p l.taken l.last l.invariant.1 (λ i. (c.shared_slice_known-1.given i).fits) _ _ c.loop-taken-test.true z)

pub returns-then-p-m : goal.returns-then-p-m
returns-then-p-m c = let a = c.args in
    let l = c.loop-taken in
    (_, along_over a.m.now a.at a.head l.p l.taken l.last l.invariant.1 c.loop-taken-test.false l.invariant.0 c.if-p-m.true, (refl, refl))

pub returns-then-last : goal.returns-then-last
returns-then-last c = let a = c.args in
    let l = c.loop-taken in
    along_ff a.m.now a.at a.head l.p l.taken l.last l.invariant.1 c.loop-taken-test.false l.invariant.0 c.if-p-m.false c.if-last.true

pub returns : goal.returns
returns c = let a = c.args in
    let l = c.loop-taken in
    along_good a.m.now a.at a.head l.p l.taken l.last l.invariant.1 c.loop-taken-test.false l.invariant.0 c.if-p-m.false c.if-last.false
