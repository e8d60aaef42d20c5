use Rattle.lists.proofs.Kit.{rules, ◌-◌, refl, subst}
use Rattle.requests.specs.Running.{StepIs}
use Rattle.requests.proofs.Steps.{along_start, along_on, along_fault, along_over, along_end}
use Rattle.requests.proofs.run.take_settings_from.Goals as goal

pub loop-taken-init : goal.loop-taken-init
loop-taken-init c =
    let a = c.args in
    (refl, λ was roomy ok h n. along_start a.request.coding a.limits a.m.now a.request.count a.request.at was a.work.now a.held ok h n)

pub returns-in-Err : goal.returns-in-Err
returns-in-Err c =
    let a = c.args in
    let l = c.loop-taken in
    let k = c.take_setting in
    let z = subst (StepIs a.request.coding a.limits (a.request.count - l.taken - 1) a.m.now l.last.next l.last.sum l.work k.new.work) c.in-Err.is k.ensures in
    λ was roomy ok h n.
    let x = l.invariant.1 was roomy ok h n in
    along_fault a.request.coding a.limits a.m.now a.request.count a.request.at was l.work l.last.next l.taken l.last.flags l.last.sum x _ c.loop-taken-test.true (z x.tables roomy x.holds x.summed)

pub loop-taken-preserved : goal.loop-taken-preserved
loop-taken-preserved c =
    let a = c.args in
    let l = c.loop-taken in
    let k = c.take_setting in
    let z = subst (StepIs a.request.coding a.limits (a.request.count - l.taken - 1) a.m.now l.last.next l.last.sum l.work k.new.work) c.in-Ok.is k.ensures in (
      search rules,
      λ was roomy ok h n.
          let x = l.invariant.1 was roomy ok h n in
          along_on a.request.coding a.limits a.m.now a.request.count a.request.at was l.work l.last.next l.taken l.last.flags l.last.sum x (λ i. (c.shared_slice_known-1.given i).fits) k.new.work _ _ _ c.loop-taken-test.true (z x.tables roomy x.holds x.summed),
    )

pub returns-then-last-m : goal.returns-then-last-m
returns-then-last-m c =
    let a = c.args in
    let l = c.loop-taken in
    λ was roomy ok h n.
    along_over a.request.coding a.limits a.m.now a.request.count a.request.at was l.work l.last.next l.taken l.last.flags l.last.sum (l.invariant.1 was roomy ok h n) c.loop-taken-test.false l.auto.taken-end c.if-last-m.true

pub returns : goal.returns
returns c =
    let a = c.args in
    let l = c.loop-taken in
    λ was roomy ok h n.
    along_end a.request.coding a.limits a.m.now a.request.count a.request.at was l.work l.last.next l.taken l.last.flags l.last.sum (l.invariant.1 was roomy ok h n) c.loop-taken-test.false l.auto.taken-end c.if-last-m.false
