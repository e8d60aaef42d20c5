use Rattle.lists.proofs.Kit.{◌≡◌, rules, arith}
use Rattle.tables.proofs.FormLaws.{starts_are}
use Rattle.tables.proofs.list_places.lines_at.Goals as goal

pub returns : goal.returns
returns c =
    let lim = c.args.limits in
    let s = starts_are lim.texts lim in
    let p = c.channels_at.ensures in
    let m = c.min-channels.ensures in (
      omega (arith, p, m),
      omega (arith, p),
      λ h. let i : c.min-channels.result ≡ lim.channels = omega (arith, m, h) in (omega (arith, p, i, s.channels, s.lines), omega (arith, p, i)),
    )
