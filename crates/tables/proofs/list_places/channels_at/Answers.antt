use Rattle.lists.proofs.Kit.{rules, arith}
use Rattle.tables.specs.Layout.{channels_at}
use Rattle.tables.specs.SharedLayout.{shared_channels_at}
use Rattle.tables.proofs.FormLaws.{starts_are, form_most}
use Rattle.tables.proofs.list_places.channels_at.Goals as goal

pub returns : goal.returns
returns c =
    let lim = c.args.limits in
    let e = (starts_are lim.texts lim).channels in
    let m = form_most lim.texts channels_at shared_channels_at (omega arith) in
    (omega (arith, e, c.by_form.ensures), omega (arith, m, c.by_form.ensures))
