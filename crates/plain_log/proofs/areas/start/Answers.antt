use Rattle.lists.proofs.Kit.{refl, ap, ◌∙◌, inl, inr, List, ℕ}
use Rattle.plain_log.specs.Area.{Begun}
use Rattle.plain_log.proofs.FrameLaws.{fresh_area}
use Rattle.plain_log.proofs.areas.start.Goals as goal

pub returns-then-area-ne-AREA : goal.returns-then-area-ne-AREA
returns-then-area-ne-AREA c = inl (λ e. c.if-area-ne-AREA.true e, refl)

pub returns : goal.returns
returns c =
    let long = c.if-area-ne-AREA.false in
    inr (λ n. n long, (long, ap (λ (s : List ℕ). (let z : Begun = record { number = 0; area = s } in z)) (c.wipe.ensures ∙ fresh_area _ long)))
