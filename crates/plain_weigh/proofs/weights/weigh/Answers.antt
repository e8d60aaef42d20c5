use Rattle.lists.proofs.Kit.{subst⁻¹}
use Rattle.std.specs.declared.option.Option.TheVariants.{Some}
use Rattle.read_deeds.specs.declared.deeds.Deed.{Deed}
use Rattle.plain_weigh.specs.Weighing.{WeighIs}
use Rattle.plain_weigh.proofs.WeightLaws.{weigh_removes}
use Rattle.plain_weigh.proofs.weights.weigh.Goals as goal

pub returns-in-Removes : goal.returns-in-Removes
returns-in-Removes c =
    let a = c.args in
    subst⁻¹ (λ (d : Deed). WeighIs d a.known a.weight (Some c.weigh_removed.result)) c.in-Removes.is (weigh_removes a.known a.weight _ _ c.weigh_removed.result c.weigh_removed.ensures)
