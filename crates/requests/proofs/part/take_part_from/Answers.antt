use Rattle.lists.proofs.Kit.{◌-◌, ap, ◌∙◌, ℕ}
use Rattle.requests.specs.Parts.{with_area}
use Rattle.requests.proofs.PartRuns.{part_from}
use Rattle.requests.proofs.part.take_part_from.Goals as goal

pub returns : goal.returns
returns c =
    let x = c.args in
    let l = c.saturating_sub in
    let n = c.limits_beside-beside in
    let k = c.take_settings_from in
    part_from x.request.coding x.limits x.kind x.request.count x.m.now x.request.at x.held x.own x.work.now k.new.work n.result k.result
    (λ a e. n.ensures a e ∙ ap (λ (i : ℕ). with_area x.limits (a - i)) l.ensures) k.ensures
