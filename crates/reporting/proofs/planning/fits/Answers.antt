use Rattle.lists.proofs.Kit.{arith, refl}
use Rattle.reporting.proofs.StepLaws.{fits_by}
use Rattle.reporting.proofs.planning.fits.Goals as goal

pub returns : goal.returns
returns c =
    let a = c.args in
    fits_by a.count a.used a.size a.room _ (omega arith) (omega arith) refl
