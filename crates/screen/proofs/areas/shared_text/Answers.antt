use Rattle.screen.proofs.AreaLaws.{span_is}
use Rattle.screen.proofs.areas.shared_text.Goals as goal

pub returns : goal.returns
returns c =
    let a = c.args in
    let h = c.requires.0 in
    span_is a.limits a.store.now a.spot a.last (c.area_at.ensures.1 (h.few_channels, h.few_lines)) (c.units_before-before.ensures.1 h) c.wide.ensures.0
