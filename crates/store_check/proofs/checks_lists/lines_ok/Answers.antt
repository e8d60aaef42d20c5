use Rattle.lists.proofs.Kit.{rules, arith, sym, ap}
use Rattle.tables.proofs.AnswerLaws.{refused, not_said, was_said}
use Rattle.store_check.specs.declared.checks_tables.Table.TheVariants.{Lines}
use Rattle.store_check.specs.declared.forms.Form.{Form}
use Rattle.store_check.specs.Checks.{width_in}
use Rattle.store_check.proofs.KeyedChecks.{lines_counted, lines_decided}
use Rattle.store_check.proofs.checks_lists.lines_ok.Goals as goal

pub returns-then-not-counted_ok : goal.returns-then-not-counted_ok
returns-then-not-counted_ok c =
    let t = c.counted_ok in
    refused (λ x. not_said t.result (t.ensures c.args.n (omega arith)) c.if-not-counted_ok.true-raw (lines_counted c.args.form c.args.n c.args.s.now c.requires.0 c.requires.1 x))

pub returns-in-Placed : goal.returns-in-Placed
returns-in-Placed c =
    let t = c.counted_ok in
    let h = c.count-held in
    let e = sym (ap (λ (f : Form). width_in f Lines) c.in-Placed.is) in
    lines_decided c.args.form c.args.n c.args.s.now c.requires.0 c.requires.1 h.result h.ensures 52 e c.order_ok.result c.order_ok.ensures
    (was_said t.result (t.ensures c.args.n (omega arith)) c.if-not-counted_ok.false-raw)

pub returns-in-Shared : goal.returns-in-Shared
returns-in-Shared c =
    let t = c.counted_ok in
    let h = c.count-held in
    let e = sym (ap (λ (f : Form). width_in f Lines) c.in-Shared.is) in
    lines_decided c.args.form c.args.n c.args.s.now c.requires.0 c.requires.1 h.result h.ensures 21 e c.order_ok-in-Shared.result c.order_ok-in-Shared.ensures
    (was_said t.result (t.ensures c.args.n (omega arith)) c.if-not-counted_ok.false-raw)
