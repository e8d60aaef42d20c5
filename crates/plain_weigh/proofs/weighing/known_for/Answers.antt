use Rattle.plain_weigh.proofs.WeighingLaws.{for_as, for_puts, for_removes}
use Rattle.plain_weigh.proofs.weighing.known_for.Goals as goal

pub returns-in-Puts : goal.returns-in-Puts
returns-in-Puts c =
    let a = c.args in
    for_as _ _ c.args.before a.deed _ c.look_both.result c.in-Puts.is (for_puts _ _ c.args.before _ _ c.look_both.result c.look_both.ensures)

pub returns-in-Removes : goal.returns-in-Removes
returns-in-Removes c =
    let a = c.args in
    for_as _ _ c.args.before a.deed _ c.look_both-in-Removes.result c.in-Removes.is (for_removes _ _ c.args.before _ _ c.look_both-in-Removes.result c.look_both-in-Removes.ensures)
