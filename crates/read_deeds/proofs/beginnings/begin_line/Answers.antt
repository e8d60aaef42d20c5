use Rattle.lists.proofs.Kit.{rules, refl}
use Rattle.read_deeds.proofs.BeginLaws.{text_seen, single_as}
use Rattle.read_deeds.proofs.beginnings.begin_line.Goals as goal

pub returns : goal.returns
returns c =
    λ e ok is.
    let name = (c.number_code.ensures e.number is.middle ok is.number).0 in
    single_as c.args.m.now c.doing.result c.single.result _ c.single.ensures
    (c.doing.ensures _ _ (record { key = refl; name = name; hidden = refl; text = text_seen (is.end, is.text) }))
