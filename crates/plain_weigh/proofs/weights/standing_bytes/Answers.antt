use Rattle.plain_weigh.proofs.WeightLaws.{put_stays}
use Rattle.plain_weigh.proofs.weights.standing_bytes.Goals as goal

pub returns-in-QuickTexts : goal.returns-in-QuickTexts
returns-in-QuickTexts c =
    let a = c.args in
    put_stays a.kind a.put a.known _ _ c.in-Some.is c.in-QuickTexts.is c.bytes_of.ensures
