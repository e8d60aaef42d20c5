use Rattle.lists.proofs.Kit.{rules, arith}
use Rattle.tables.proofs.AnswerLaws.{refused}
use Rattle.store_check.proofs.AreaLaws.{area_short, area_gap, area_told}
use Rattle.store_check.proofs.checks_shared.area_ok.Goals as goal

pub returns-then-area-units : goal.returns-then-area-units
returns-then-area-units c = refused (area_short c.args.units c.args.area.now (omega arith))

pub returns-then-not-area_shown : goal.returns-then-not-area_shown
returns-then-not-area_shown c =
    let a = c.args in
    refused (area_gap a.units a.area.now (omega arith) c.area_shown.result c.area_shown.ensures c.if-not-area_shown.true-raw)

pub returns : goal.returns
returns c =
    let a = c.args in
    area_told a.units a.area.now (omega arith) c.area_shown.result c.area_shown.ensures c.if-not-area_shown.false-raw c.is_clear.result c.is_clear.ensures
