use Rattle.lists.proofs.Kit.{arith, subst}
use Rattle.reporting.specs.Plans.{FitsIs}
use Rattle.reporting.proofs.StepLaws.{step_own, step_other, new_own, new_other}
use Rattle.reporting.proofs.planning.step.Goals as goal

pub overflow_add-used : goal.overflow_add-used
overflow_add-used c =
    let a = c.args in
    let f = subst (FitsIs a.w.count a.w.used a.size a.room) c.if-fits.true c.fits.ensures in
    omega (arith, f.1)

pub overflow_add-count : goal.overflow_add-count
overflow_add-count c =
    let a = c.args in
    let f = subst (FitsIs a.w.count a.w.used a.size a.room) c.if-fits.true c.fits.ensures in
    omega (arith, f.0)

pub returns-then-closed-j : goal.returns-then-closed-j
returns-then-closed-j c =
    let a = c.args in
    let f = subst (FitsIs a.w.count a.w.used a.size a.room) c.if-fits.true c.fits.ensures in
    step_own a.room a.j a.size a.here a.w f c.if-closed-j.true

pub returns-then-fits : goal.returns-then-fits
returns-then-fits c =
    let a = c.args in
    let f = subst (FitsIs a.w.count a.w.used a.size a.room) c.if-fits.true c.fits.ensures in
    step_other a.room a.j a.size a.here a.w f c.if-closed-j.false

pub returns-then-closed-j-2 : goal.returns-then-closed-j-2
returns-then-closed-j-2 c =
    let a = c.args in
    let f = subst (FitsIs a.w.count a.w.used a.size a.room) c.if-fits.false c.fits.ensures in
    new_own a.room a.j a.size a.here a.w f c.if-closed-j-2.true

pub returns : goal.returns
returns c =
    let a = c.args in
    let f = subst (FitsIs a.w.count a.w.used a.size a.room) c.if-fits.false c.fits.ensures in
    new_other a.room a.j a.size a.here a.w f c.if-closed-j-2.false
