use Rattle.lists.proofs.Kit.{subst⁻¹}
use Rattle.working.specs.declared.copies.Copy.{Copy}
use Rattle.working.specs.Copies.{CopySum}
use Rattle.working.proofs.copies.copy_bytes.Goals as goal

pub returns-in-Whole : goal.returns-in-Whole
returns-in-Whole c = let a = c.args in subst⁻¹ (λ (d : Copy). CopySum a.limits d a.store.now 0) c.in-Whole.is tt

pub returns-in-Part : goal.returns-in-Part
returns-in-Part c =
    let a = c.args in
    subst⁻¹ (λ (d : Copy). CopySum a.limits d a.store.now c.kind_bytes.result) c.in-Part.is c.kind_bytes.ensures
