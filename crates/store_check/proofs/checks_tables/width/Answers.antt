use Rattle.lists.proofs.Kit.{rules, arith, ap}
use Rattle.store_check.specs.declared.checks_tables.Table.{Table}
use Rattle.store_check.specs.Checks.{width_in}
use Rattle.store_check.proofs.checks_tables.width.Goals as goal

pub returns-in-QuickTexts : goal.returns-in-QuickTexts
returns-in-QuickTexts c =
    let a = c.args in
    let e = ap (λ (t : Table). width_in a.form t) c.in-QuickTexts.is in
    (omega (arith, e), omega arith)

pub returns-in-StatusTexts : goal.returns-in-StatusTexts
returns-in-StatusTexts c =
    let a = c.args in
    let e = ap (λ (t : Table). width_in a.form t) c.in-StatusTexts.is in
    (omega (arith, e), omega arith)

pub returns-in-Members : goal.returns-in-Members
returns-in-Members c =
    let a = c.args in
    let e = ap (λ (t : Table). width_in a.form t) c.in-Members.is in
    (omega (arith, e), omega arith)

pub returns-in-Channels : goal.returns-in-Channels
returns-in-Channels c =
    let a = c.args in
    let e = ap (λ (t : Table). width_in a.form t) c.in-Channels.is in
    (omega (arith, e), omega arith)

pub returns-in-Lines : goal.returns-in-Lines
returns-in-Lines c =
    let a = c.args in
    let e = ap (λ (t : Table). width_in a.form t) c.in-Lines.is in
    (omega (arith, e), omega arith)
