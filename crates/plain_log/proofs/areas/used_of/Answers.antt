use Rattle.lists.proofs.Kit.{ap, ◌∙◌, ℕ, List, length}
use Rattle.plain_log.proofs.FrameLaws.{area_long}
use Rattle.plain_log.proofs.areas.used_of.Goals as goal

pub returns-then-area-ne-AREA : goal.returns-then-area-ne-AREA
returns-then-area-ne-AREA c = λ log a h. c.if-area-ne-AREA.true (ap (λ (s : List ℕ). length s) a ∙ area_long log)
