use Rattle.lists.proofs.Kit.{rules, refl}
use Rattle.read_deeds.proofs.BeginLaws.{text_seen, single_as}
use Rattle.read_deeds.proofs.beginnings.begin_member.Goals as goal

pub returns : goal.returns
returns c =
    λ m us t. single_as m c.doing.result c.single.result _ c.single.ensures (c.doing.ensures m _ (record { key = refl; name = refl; hidden = refl; text = text_seen t }))
